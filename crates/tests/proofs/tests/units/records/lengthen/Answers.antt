-- A long index is over the records whatever room these have, so also with the room that they have now.
use Rattle.intaglio_records.specs.Records.{record_room_of}
use Rattle.tests.proofs.tests.units.records.lengthen.Goals as goal

pub returns : goal.returns
returns g c = (rw c.expect.ensures at c.lengthen.ensures.over) (record_room_of c.args.records.now)
