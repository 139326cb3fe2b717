-- A symbol without a predecessor becomes the first, and its link leads to the one that was (`place-first`).
-- Any other takes over its predecessor's link, which then leads to it (`place-behind`).
use Rattle.intaglio_index.proofs.Names.{common_steps, IsPredecessor}
use Rattle.std.proofs.Common.{◌≡◌, ℕ, ◌<◌, ◌%◌, length, arith, ◌∙◌}
use Rattle.intaglio_index.specs.Placed.{chain}
use Rattle.intaglio_index.proofs.ChainLemmas.{chain-distinct}
use Rattle.intaglio_index.proofs.HeadLemmas.{head-read, holds-pushed, alone-is}
use Rattle.intaglio_index.proofs.LinkLemmas.{place-first, place-behind, predecessor-within}
use Rattle.intaglio_index.proofs.index.Index.insert_among.Goals as goal
use Rattle.intaglio_index.proofs.index.Index.insert_among.Goals.{After-marked}

at-bucket : (c : After-marked) → c.args.bucket ≡ c.args.hash % length c.self.inside.heads.items
at-bucket c = rw (← c.self.view_is) at c.requires.bucket

number-is : (c : After-marked) → c.args.symbol ≡ length c.self.inside.hashes.items
number-is c = rw (← c.self.view_is) at c.requires.next

free : (c : After-marked) → c.args.symbol < length c.self.inside.heads.items
free c = (let room = rw (← c.self.view_is) at c.requires.room in omega (arith, room))

within : (c : After-marked) →
    c.args.hash % length c.self.inside.heads.items < length c.self.inside.heads.items
within c = omega (arith, free c)

below : (c : After-marked) (last : ℕ) →
    IsPredecessor c.args.hash (chain c.args.self.now (c.args.hash % c.args.self.now.count)) last →
    last < length c.self.inside.hashes.items
unfolding chain
below c last pred =
    predecessor-within c.self.invariant.linked c.args.hash _ last (rw (← c.self.view_is) at pred)

pub invariant_of-self : goal.invariant_of-self
unfolding chain
invariant_of-self c =
    let all = (goal.at.invariant_of-self c).After-marked in
    let begins = rw (← c.self.view_is) at c.in-None.ensures in
    let leads = rw (at-bucket all, ← c.self.view_is) at c.first_symbol-first_symbol.ensures in
    let old = head-read c.self.invariant _ _ (within all) (rw (at-bucket all) at c.index-head.ensures) in
    rw (c.push_reserved.ensures.items, c.push_reserved-in-None.ensures.items)
    (rw (c.unwrap_or.ensures, at-bucket all)
    (holds-pushed c.self.invariant c.args.hash _ _ (within all) (rw (at-bucket all) at c.index.ensures)
    c.marked.ensures.set c.marked.ensures.kept
    (c.with_first.ensures _ _ c.args.hash _ old (alone-is _ _ c.is_none.result leads c.is_none.ensures) begins
    (c.word-word.ensures.word.0, c.word-word.ensures.word.1 ∙ number-is all))
    (place-first c.self.invariant.linked _ _ (number-is all) c.word-word.ensures.number (free all) _ leads begins)))

pub next-requires : goal.next-requires
next-requires c = grind (arith, common_steps, below)

pub index_mut-requires-in-Some-2 : goal.index_mut-requires-in-Some-2
index_mut-requires-in-Some-2 c = grind (arith, common_steps, below)

pub invariant_of-self-in-Some : goal.invariant_of-self-in-Some
unfolding chain
invariant_of-self-in-Some c =
    let all = (goal.at.invariant_of-self-in-Some c).After-marked in
    let pred = rw (← c.self.view_is) at c.in-Some.ensures in
    let next = rw c.deref.ensures.value at c.next.ensures in
    let leads = rw (at-bucket all, ← c.self.view_is) at c.first_symbol-first_symbol.ensures in
    let old = head-read c.self.invariant _ _ (within all) (rw (at-bucket all) at c.index-head.ensures) in
    rw (c.push_reserved.ensures.items, c.push_reserved-in-Some.ensures.items)
    (rw (c.unwrap_or-link.ensures, c.id.ensures, at-bucket all)
    (holds-pushed c.self.invariant c.args.hash _ _ (within all) (rw (at-bucket all) at c.index.ensures)
    c.marked.ensures.set c.marked.ensures.kept
    (c.with_after.ensures _ _ c.args.hash _ old leads (chain-distinct (length c.self.inside.heads.items)
    (c.args.hash % length c.self.inside.heads.items) c.self.inside.hashes.items) pred
    (c.word-word.ensures.word.0, c.word-word.ensures.word.1 ∙ number-is all))
    (place-behind c.self.invariant.linked c.args.hash c.args.symbol (number-is all) c.word-word.ensures.number
    (free all) _ _ (below all c.in-Some.last c.in-Some.ensures) next pred)))
