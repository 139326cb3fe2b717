-- Pairs are the first n if their hashes and their strings are (`same-pairs`). Bytes of dropped strings are
-- spare now, so there is as much room for records as before, and the index stays over it.
use Rattle.intaglio_packed.proofs.Names.{common_steps, take-map, record_room_of, same-pairs, over-same}
use Rattle.std.proofs.Common.{◌≡◌, take, sym, ◌∙◌, arith}
use Rattle.intaglio_packed.proofs.packed_index.RecordIndexIndexOfPacked.truncate.Goals as goal

pub returns-clause-over : goal.returns-clause-over
returns-clause-over g c =
    let old = c.args.list.now in
    let new = c.truncate-2.new.self in
    let n = c.args.n in
    let list : new.list ≡ take n old.list = grind (arith, common_steps, same-pairs, take-map) in
    let room : record_room_of new ≡ record_room_of old = grind (arith, common_steps) in
    over-same (take n old.list) new.list (record_room_of old) (record_room_of new) c.truncate.new.self
    (sym list) (sym room) (rw c.records.ensures at c.truncate.ensures.over)
