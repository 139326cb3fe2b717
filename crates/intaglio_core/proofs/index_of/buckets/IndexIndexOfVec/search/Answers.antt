-- `find` and `find_next` give all symbols with the hash, one after the other. So a walk to the end has
-- compared each content that can have the key (`ends`), and a hit is the only one that has it (`finds`).
use Rattle.intaglio_core.proofs.Names.{common_steps, ◌≡◌, None, Option, Some, slice_get, arith, rules}
use Rattle.std.specs.Option.{IfSome}
use Rattle.intaglio_core.proofs.Walking.{passes, begins, within, ends, finds, goes-on, falls}
use Rattle.intaglio_core.proofs.index_of.buckets.IndexIndexOfVec.search.Goals as goal

any-read : {X : Type 0} (o : Option X) → IfSome o (λ _. Unit {0})
any-read None = tt
any-read (Some x) = tt

pub returns-in_err-find-clause-found : goal.returns-in_err-find-clause-found
returns-in_err-find-clause-found g c = grind (arith, common_steps, passes)

pub returns-in_err-find-clause-cost : goal.returns-in_err-find-clause-cost
returns-in_err-find-clause-cost g c = λ h by.
    (let none : c.find.result ≡ None = search rules in
    (passes g.C.Keyed.key h c.args.self.now c.args.list.now.items (g.Q.Keyed.key c.args.sought.now) _ _
    by.stored c.requires.distinct (rw by.sought at (c.find.ensures.none none))
    (rw by.sought at (c.find.ensures.passed none))).1)

pub loop-candidate-init : goal.loop-candidate-init
loop-candidate-init g c = grind (arith, common_steps, begins)

pub same_at-requires-clause-read : goal.same_at-requires-clause-read
same_at-requires-clause-read g c = any-read (slice_get c.args.list.now.items c.id.result)

pub same_at-requires-clause-there : goal.same_at-requires-clause-there
same_at-requires-clause-there g c = grind (arith, common_steps, within)

pub returns-then-same_at-clause-found : goal.returns-then-same_at-clause-found
returns-then-same_at-clause-found g c = grind (arith, common_steps, finds)

pub returns-then-same_at-clause-cost : goal.returns-then-same_at-clause-cost
returns-then-same_at-clause-cost g c = λ h by.
    (finds by.stored c.requires.distinct c.in-Some.symbol _
    (rw c.in-Some.is at (c.loop-candidate.invariant.walking h by))
    (rw c.id.ensures at c.if-same_at.ensures)).1

pub find_next-candidate-requires : goal.find_next-candidate-requires
find_next-candidate-requires g c = grind (arith, common_steps, within)

pub loop-candidate-smaller : goal.loop-candidate-smaller
loop-candidate-smaller g c = grind (arith, common_steps, falls)

pub loop-candidate-preserved : goal.loop-candidate-preserved
loop-candidate-preserved g c = record {
  walking =
      λ h by. goes-on by.stored c.in-Some.symbol _ _ _
      (rw c.in-Some.is at (c.loop-candidate.invariant.walking h by)) (rw c.id.ensures at c.if-same_at.ensures)
      c.find_next-candidate.ensures.events c.find_next-candidate.ensures.next;
}

pub returns-clause-found : goal.returns-clause-found
returns-clause-found g c = grind (arith, common_steps, ends)

pub returns-clause-cost : goal.returns-clause-cost
returns-clause-cost g c = grind (arith, common_steps, ends)
