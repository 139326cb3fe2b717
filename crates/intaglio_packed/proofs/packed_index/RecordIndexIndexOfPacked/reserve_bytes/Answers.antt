-- As in `prepare`: with as many spare bytes as before, the index is over the list still (`over-spare`).
use Rattle.intaglio_packed.proofs.PackedLemmas.{over-spare}
use Rattle.intaglio_packed.proofs.packed_index.RecordIndexIndexOfPacked.reserve_bytes.Goals as goal

pub returns-in_err-reserve_bytes-clause-over : goal.returns-in_err-reserve_bytes-clause-over
returns-in_err-reserve_bytes-clause-over g c =
    over-spare c.args.list.now c.reserve_bytes.new.self c.args.self.now _ c.reserve_bytes.ensures.hashes
    c.reserve_bytes.ensures.contents c.reserve_bytes.ensures.most
    c.in_err-reserve_bytes.ensures.err c.requires

pub reach_bytes-requires-clause-over : goal.reach_bytes-requires-clause-over
reach_bytes-requires-clause-over g c =
    over-spare c.args.list.now c.reserve_bytes.new.self c.args.self.now _ c.reserve_bytes.ensures.hashes
    c.reserve_bytes.ensures.contents c.reserve_bytes.ensures.most
    (rw c.records.ensures at c.spare_bytes-spare.ensures) c.requires
