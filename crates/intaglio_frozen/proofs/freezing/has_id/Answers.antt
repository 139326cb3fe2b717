-- The ends and the text of a block are those of its strings. So the identity of the strings is that of the
-- bytes, and equal hashes in the header are enough (`of-header`).
use Rattle.std.proofs.Common.{◌∙◌, eqb-true}
use Rattle.intaglio_frozen.proofs.Places.{AreBytes, of-header}
use Rattle.intaglio_frozen.proofs.freezing.has_id.Goals as goal

pub returns-then-id-read_u64 : goal.returns-then-id-read_u64
returns-then-id-read_u64 c = λ same.
    let bs = c.args.bytes.now in
    let fits : AreBytes bs = λ k. (c.type_inv.bytes k).fits in
    let id = c.args.id in
    of-header bs fits c.requires.block id c.requires.id (c.if-id-read_u64.true ∙ c.read_u64.ensures)
    (eqb-true id.hash1 c.read_u64-then-id-read_u64.result same ∙ c.read_u64-then-id-read_u64.ensures)
