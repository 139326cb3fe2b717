-- If the number of buckets is a power of two, all hashes of a bucket have the same low bits. So words are in
-- the order of the hashes, and comparing the hash's high bits with both words tells which case it is.
use Rattle.intaglio_index.proofs.Names.{common_steps}
use Rattle.std.proofs.Common.{◌≡◌, ℕ, ◌<◌, ◌+◌, ◌%◌, ◌∷◌, ◌++◌, sym, ap, ◌∙◌, arith, inl, inr}
use Rattle.intaglio_index.proofs.HeadLemmas.{IsOccupied, count-is, numbered, is-vacant, is-occupied, first-within, second-within}
use Rattle.intaglio_index.proofs.SearchLemmas.{begins-above, first-precedes, behind-second}
use Rattle.intaglio_index.proofs.WalkLemmas.{starts}
use Rattle.intaglio_index.proofs.index.Index.predecessor.Goals as goal
use Rattle.intaglio_index.proofs.index.Index.predecessor.Goals.{After-index}

exact : (c : After-index) → c.args.self.now.count ≡ c.self.inside.modulus.mask + 1
exact c =
    count-is c.self.view_is c.self.invariant ∙ sym c.self.invariant.counted
    ∙ c.is_power_of_two.ensures.0 c.if-not-is_power_of_two.false

within : (c : After-index) → c.args.hash % c.args.self.now.count < c.args.self.now.count
within c = rw c.requires.bucket at c.requires.within

occupied : (c : After-index) → (c.index.result.now ≡ 0 → ⊥) →
    IsOccupied c.args.self.now (c.args.hash % c.args.self.now.count) (c.self.inside.modulus.mask + 1)
    c.index-head.result.now
occupied c some = is-occupied c.self.view_is c.self.invariant _ _ _ (within c) (rw c.requires.bucket at c.index-head.ensures)
    (rw c.requires.bucket at c.index.ensures) some

some-size : (n : ℕ) → 0 < n + 1
some-size n = omega arith

pub returns-then-index-eq0 : goal.returns-then-index-eq0
returns-then-index-eq0 c =
    let all = (goal.at.returns-then-index-eq0 c).After-index in
    elim c.then-index-eq0.either [
      | inl none ↦ rw (is-vacant c.self.view_is c.self.invariant _ _ (within all) (rw c.requires.bucket at c.index.ensures) none) tt
      | inr p ↦
          begins-above _ c.args.hash _ _ (some-size _) (exact all) (occupied all p.0) (rw c.high-high.ensures at p.1)
    ]

pub symbol-requires-clause-number : goal.symbol-requires-clause-number
symbol-requires-clause-number c =
    let all = (goal.at.symbol-requires-clause-number c).After-index in
    omega (arith, first-within (occupied all c.if-index-eq0.false), numbered c.self.view_is c.self.invariant)

pub returns-then-high-head-2 : goal.returns-then-high-head-2
returns-then-high-head-2 c = grind (arith, common_steps, first-precedes, some-size, exact, occupied)

pub symbol-second-requires-clause-number : goal.symbol-second-requires-clause-number
symbol-second-requires-clause-number c =
    let all = (goal.at.symbol-second-requires-clause-number c).After-index in
    omega (arith, second-within (occupied all c.if-index-eq0.false), numbered c.self.view_is c.self.invariant)

pub next_entry-requires : goal.next_entry-requires
next_entry-requires c = rw c.symbol-second.ensures
    (second-within (occupied (goal.at.next_entry-requires c).After-index c.if-index-eq0.false))

pub last_below-requires-2 : goal.last_below-requires-2
last_below-requires-2 c =
    let all = (goal.at.last_below-requires-2 c).After-index in
    rw c.symbol-second.ensures
    (behind-second _ c.args.hash _ _ (some-size _) (exact all) (occupied all c.if-index-eq0.false)
    c.next_entry.result (rw c.high-high.ensures at c.if-high-head.false) (rw c.high-high.ensures at c.if-high-head-2.false)
    (λ b hash before behind split. c.next_entry.ensures.next b hash before behind (split
    ∙ ap (λ s. before ++ (s, hash) ∷ behind) (sym c.symbol-second.ensures))))

pub last_below-requires : goal.last_below-requires
last_below-requires c = starts _ _ _ (rw c.requires.bucket at c.first_entry.ensures)
