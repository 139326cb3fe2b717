-- Only the room for bytes may have grown. With as many spare bytes as before, the index is over the list
-- still (`over-spare`): this is what `reach_bytes` requires, and what is left after an error.
use Rattle.intaglio_packed.proofs.PackedLemmas.{over-spare}
use Rattle.intaglio_packed.proofs.packed_index.RecordIndexIndexOfPacked.prepare.Goals as goal

pub returns-in_err-prepare-clause-over : goal.returns-in_err-prepare-clause-over
returns-in_err-prepare-clause-over g c =
    over-spare c.args.list.now c.prepare.new.store c.args.self.now _ c.prepare.ensures.hashes
    c.prepare.ensures.contents c.prepare.ensures.most c.in_err-prepare.ensures.err c.requires

pub reach_bytes-requires-clause-over : goal.reach_bytes-requires-clause-over
reach_bytes-requires-clause-over g c =
    over-spare c.args.list.now c.prepare.new.store c.args.self.now _ c.prepare.ensures.hashes
    c.prepare.ensures.contents c.prepare.ensures.most (rw c.records.ensures at c.spare_bytes-spare.ensures)
    c.requires
