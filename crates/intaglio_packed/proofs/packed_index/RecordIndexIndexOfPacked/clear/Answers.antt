-- No string is left, and the bytes of those that were are spare now. So the index is over an empty list with
-- as much room for records as before, and that is this list (`over-same`).
use Rattle.intaglio_packed.proofs.Names.{common_steps, record_room_of, same-pairs, over-same}
use Rattle.std.proofs.Common.{◌≡◌, [], sym, arith}
use Rattle.intaglio_packed.proofs.packed_index.RecordIndexIndexOfPacked.clear.Goals as goal

pub returns-clause-over : goal.returns-clause-over
returns-clause-over g c =
    let old = c.args.list.now in
    let new = c.clear-2.new.self in
    let empty : new.list ≡ [] = same-pairs new.list [] c.clear-2.ensures.hashes c.clear-2.ensures.contents in
    let room : record_room_of new ≡ record_room_of old = grind (arith, common_steps) in
    over-same [] new.list (record_room_of old) (record_room_of new) c.clear.new.self (sym empty) (sym room)
    (c.clear.ensures.over old.list (record_room_of old) c.requires)
