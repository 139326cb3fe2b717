-- If the records are short, four bytes reach all the room that they have now, so the index stays over them.
use Rattle.intaglio_records.specs.Records.{record_room_of}
use Rattle.intaglio_records.proofs.IndexLemmas.{over-short}
use Rattle.tests.proofs.tests.units.records.follow.Goals as goal

pub returns-then-is_short : goal.returns-then-is_short
returns-then-is_short g c =
    let records = c.args.records.now in
    over-short records.list c.requires.0 (record_room_of records) c.args.index.now c.requires.1
    (c.is_short.ensures.0 c.if-is_short.true)
