-- The records that are left are the first of all, so their strings and hashes are the first of these
-- (`take-map`), and all of these strings are still spellings of the kind (`All-take`).
use Rattle.std.proofs.Common.{ℕ, List, sym}
use Rattle.intaglio_packed.proofs.Names.{take-map, All-take, strings_of}
use Rattle.intaglio_packed.proofs.packed_store.PackedStore.truncate.Goals as goal

pub invariant_of-self : goal.invariant_of-self
invariant_of-self g c =
    let cut = sym (take-map (λ (p : ℕ × List ℕ). p.1) c.args.n c.self.inside.records.list) in
    rw (
      c.truncate.ensures.list,
      cut,
    ) (All-take g.K.StringKind.is_spelling c.args.n (strings_of c.self.inside.records) c.self.invariant)

pub returns-clause-contents : goal.returns-clause-contents
returns-clause-contents g c =
    rw (← c.self.view_is, c.truncate.ensures.list)
    (sym (take-map (λ (p : ℕ × List ℕ). p.1) c.args.n c.self.inside.records.list))

pub returns-clause-hashes : goal.returns-clause-hashes
returns-clause-hashes g c =
    rw (← c.self.view_is, c.truncate.ensures.list)
    (sym (take-map (λ (p : ℕ × List ℕ). p.0) c.args.n c.self.inside.records.list))
