-- A filter of 0 says that the bucket is empty (`is-vacant`). Then the symbol is alone in it: both words are
-- its own (`head-alone`), and its link leads to itself (`place-first`).
use Rattle.std.proofs.Common.{◌≡◌, ◌<◌, ◌%◌, [], length, arith, ◌∙◌, ap, refl, None}
use Rattle.intaglio_index.proofs.Names.{chain_from}
use Rattle.intaglio_index.specs.Placed.{chain}
use Rattle.intaglio_index.proofs.HeadLemmas.{is-vacant, head-alone, holds-pushed}
use Rattle.intaglio_index.proofs.LinkLemmas.{place-first}
use Rattle.intaglio_index.proofs.index.Index.insert.Goals as goal

pub invariant_of-self : goal.invariant_of-self
unfolding chain
invariant_of-self c =
    let at : c.bucket-bucket.result ≡ c.args.hash % length c.self.inside.heads.items =
    c.bucket-bucket.ensures ∙ ap (λ n. c.args.hash % n) c.self.invariant.counted in
    let number = rw (← c.self.view_is) at c.requires.next in
    let room = rw (← c.self.view_is) at c.requires.room in
    let free : c.args.symbol < length c.self.inside.heads.items = omega (arith, room) in
    let within : c.args.hash % length c.self.inside.heads.items < length c.self.inside.heads.items =
    omega (arith, free) in
    let empty : chain_from (length c.self.inside.heads.items) (c.args.hash % length c.self.inside.heads.items)
    0 [] c.self.inside.hashes.items ≡ [] =
    is-vacant {room = 0} refl c.self.invariant _ _ within (rw at at c.index-filter.ensures) c.if-filter-ne0.false in
    rw (c.push_reserved.ensures.items, c.push_reserved-2.ensures.items, at)
    (holds-pushed c.self.invariant c.args.hash _ _ within (rw at at c.index-filter.ensures)
    c.marked.ensures.set c.marked.ensures.kept
    (head-alone _ _ c.args.hash _ (c.word-word.ensures.word.0, c.word-word.ensures.word.1 ∙ number) _ empty)
    (place-first c.self.invariant.linked c.args.hash c.args.symbol number c.word-word.ensures.number free None
    (rw empty refl) (rw empty tt)))
