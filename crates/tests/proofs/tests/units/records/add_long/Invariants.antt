-- `add` leaves the index over the records also if a length doesn't fit into the byte of its record.
use Rattle.intaglio_records.specs.Index.{IsOver}
use Rattle.intaglio_records.specs.Records.{record_room_of}
use Rattle.tests.proofs.tests.units.records.add_long.Given as goal

abbrev pub invariant-loop-length : goal.invariant-loop-length
invariant-loop-length g l = IsOver l.records.list (record_room_of l.records) l.index
