-- The emptied index is over no strings with the old room, and clearing the records gives them no more room.
use Rattle.std.proofs.Common.{[], arith}
use Rattle.intaglio_records.specs.Records.{record_room_of}
use Rattle.intaglio_records.proofs.IndexLemmas.{over-less}
use Rattle.tests.proofs.tests.units.records.clear.Goals as goal

pub returns : goal.returns
returns c =
    let old = c.args.records.now in
    let room = record_room_of old in
    let empty = c.clear.ensures.over old.list room c.requires in
    rw (c.clear-2.ensures.list) (over-less [] room _ c.clear.new.self empty (omega (
      arith,
      c.clear-2.ensures.most,
      c.clear-2.ensures.byte_room,
    )))
