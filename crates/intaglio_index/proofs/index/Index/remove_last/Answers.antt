-- If the last symbol has no predecessor, its bucket begins at its link then (`cut-first`). Otherwise the
-- predecessor takes over that link, and the bucket begins as before (`cut-behind`).
use Rattle.std.proofs.Common.{◌≡◌, ℕ, ◌%◌, ◌+◌, ◌-◌, [], length, arith, ◌∙◌, sym, Some, ap}
use Rattle.intaglio_index.proofs.Names.{Placed, chain_from, first_symbol_of, next_of}
use Rattle.intaglio_index.specs.Placed.{chain}
use Rattle.intaglio_index.proofs.HeadLemmas.{IsOccupied, count-is, numbered, is-occupied-by, never-behind, first-within, leads, nil-leader, holds-vacated, holds-read}
use Rattle.intaglio_index.proofs.LinkLemmas.{cut-first, cut-behind, predecessor-below, thread-of}
use Rattle.intaglio_index.proofs.index.Index.remove_last.Goals as goal
use Rattle.intaglio_index.proofs.index.Index.remove_last.Goals.{After-predecessor-before, After-index}

last-is : (c : After-predecessor-before) → (c.placed-last.result - 1) + 1 ≡ length c.self.inside.hashes.items
last-is c = omega (arith, ap (λ (v : Placed). length v.hashes) c.self.view_is, c.placed-last.ensures, c.requires)

at-bucket : (c : After-predecessor-before) →
    c.bucket-bucket.result ≡ c.index-hash.result.now % length c.self.inside.heads.items
at-bucket c = c.bucket-bucket.ensures ∙ ap (λ n. c.index-hash.result.now % n) c.self.invariant.counted

next-is : (c : After-predecessor-before) →
    c.next-behind.result ≡ next_of c.self.inside.links.items (c.placed-last.result - 1)
next-is c = rw (c.deref.ensures.value, c.new.ensures) at c.next-behind.ensures

pub invariant_of-self : goal.invariant_of-self
unfolding chain
invariant_of-self c =
    let all = (goal.at.invariant_of-self c).After-predecessor-before in
    let cut = cut-first c.self.invariant.linked _ _ (last-is all) c.index-hash.ensures _ (next-is all)
    (rw (← c.self.view_is) at c.in-None.ensures) in
    rw (c.truncate.ensures.items, c.truncate-2.ensures.items, at-bucket all)
    (holds-vacated c.self.invariant _ _ (last-is all) c.index-hash.ensures _ cut.0
    (nil-leader _ (sym c.in-None-behind.is ∙ cut.1)))

pub read-requires-clause-linked : goal.read-requires-clause-linked
unfolding chain
read-requires-clause-linked c =
    let all = (goal.at.read-requires-clause-linked c).After-predecessor-before in
    let cut = cut-first c.self.invariant.linked _ _ (last-is all) c.index-hash.ensures _ (next-is all)
    (rw (← c.self.view_is) at c.in-None.ensures) in
    rw (c.deref-in-Some-behind.ensures.value, c.deref-in-Some-behind-2.ensures.value)
    (rw (c.truncate.ensures.items, c.truncate-2.ensures.items)
    (_, thread-of cut.0 _ _ (sym c.in-Some-behind.is ∙ cut.1)))

pub invariant_of-self-in-Some-behind : goal.invariant_of-self-in-Some-behind
unfolding chain
invariant_of-self-in-Some-behind c =
    let all = (goal.at.invariant_of-self-in-Some-behind c).After-predecessor-before in
    let cut = cut-first c.self.invariant.linked _ _ (last-is all) c.index-hash.ensures _ (next-is all)
    (rw (← c.self.view_is) at c.in-None.ensures) in
    let leads = sym c.in-Some-behind.is ∙ cut.1 in
    let head = rw (c.deref-in-Some-behind.ensures.value, c.deref-in-Some-behind-2.ensures.value) at c.read.ensures in
    let same = rw (c.truncate.ensures.items, c.truncate-2.ensures.items) at head in
    rw (c.truncate.ensures.items, c.truncate-2.ensures.items, at-bucket all)
    (holds-read c.self.invariant _ _ (last-is all) c.index-hash.ensures _ _ _ cut.0 leads
    (same _ (thread-of cut.0 _ _ leads)))

-- the bucket has a symbol in front of the last one
occupied : (c : After-index) → IsOccupied c.args.self.now (c.index-hash.result.now % c.args.self.now.count)
    (c.self.inside.modulus.mask + 1) c.index.result.now
occupied c =
    let count = count-is c.self.view_is c.self.invariant in
    let at = c.bucket-bucket.ensures
    ∙ ap (λ n. c.index-hash.result.now % n) (c.self.invariant.counted ∙ sym count) in
    is-occupied-by c.self.view_is c.self.invariant _ _
    (omega (arith, ap (λ (v : Placed). length v.hashes) c.self.view_is, c.requires, c.self.invariant.linked.few, count))
    (rw at at c.index.ensures) (λ none. never-behind _ _ _ none c.in-Some.ensures)

pub symbol-first-requires-clause-number : goal.symbol-first-requires-clause-number
symbol-first-requires-clause-number c =
    omega (
      arith,
      first-within (occupied (goal.at.symbol-first-requires-clause-number c).After-index),
      numbered c.self.view_is c.self.invariant,
    )

pub index_mut-requires-in-Some : goal.index_mut-requires-in-Some
unfolding chain
index_mut-requires-in-Some c =
    let last = last-is (goal.at.index_mut-requires-in-Some c).After-predecessor-before in
    let below =
    predecessor-below c.self.invariant.linked _ _ last c.index-hash.ensures _ (rw (← c.self.view_is) at c.in-Some.ensures) in
    omega (arith, below, c.id.ensures, c.truncate-2.ensures.len, c.self.inside.links.ok.0, c.self.invariant.linked.paired, last)

-- the bucket still begins with the same symbol
led : (c : After-index) (first : ℕ) → first ≡ c.index.result.now.first % (c.self.inside.modulus.mask + 1) →
    Some first ≡ first_symbol_of (chain_from (length c.self.inside.heads.items)
    (c.index-hash.result.now % length c.self.inside.heads.items) 0 [] c.self.inside.hashes.items)
unfolding chain
led c first is = ap (λ s. Some s) is ∙ rw (← c.self.view_is) at (sym (leads (occupied c)))

pub read-requires-in-Some-clause-linked : goal.read-requires-in-Some-clause-linked
unfolding chain
read-requires-in-Some-clause-linked c =
    let all = (goal.at.read-requires-in-Some-clause-linked c).After-predecessor-before in
    let cut = cut-behind c.self.invariant.linked _ _ (last-is all) c.index-hash.ensures _ (next-is all) _
    (rw (← c.self.view_is) at c.in-Some.ensures) in
    let first = led (goal.at.read-requires-in-Some-clause-linked c).After-index _ c.symbol-first.ensures in
    rw (c.deref-in-Some.ensures.value, c.deref-in-Some-2.ensures.value, c.truncate.ensures.items)
    (rw (c.truncate-2.ensures.items, c.unwrap_or.ensures, c.id.ensures)
    (_, thread-of cut.0 _ _ (first ∙ sym cut.1)))

pub invariant_of-self-in-Some : goal.invariant_of-self-in-Some
unfolding chain
invariant_of-self-in-Some c =
    let all = (goal.at.invariant_of-self-in-Some c).After-predecessor-before in
    let cut = cut-behind c.self.invariant.linked _ _ (last-is all) c.index-hash.ensures _ (next-is all) _
    (rw (← c.self.view_is) at c.in-Some.ensures) in
    let leads = led (goal.at.invariant_of-self-in-Some c).After-index _ c.symbol-first.ensures ∙ sym cut.1 in
    let head = rw (c.deref-in-Some.ensures.value, c.deref-in-Some-2.ensures.value) at c.read-in-Some.ensures in
    let same = rw (c.truncate.ensures.items, c.truncate-2.ensures.items, c.unwrap_or.ensures, c.id.ensures) at head in
    rw (c.truncate.ensures.items, c.truncate-2.ensures.items)
    (rw (c.unwrap_or.ensures, c.id.ensures, at-bucket all)
    (holds-read c.self.invariant _ _ (last-is all) c.index-hash.ensures _ _ _ cut.0 leads
    (same _ (thread-of cut.0 _ _ leads))))
