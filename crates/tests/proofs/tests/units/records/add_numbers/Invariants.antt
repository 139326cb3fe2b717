-- `add` leaves the index over the records also if all hashes are equal.
use Rattle.intaglio_records.specs.Index.{IsOver}
use Rattle.intaglio_records.specs.Records.{record_room_of}
use Rattle.tests.proofs.tests.units.records.add_numbers.Given as goal

abbrev pub invariant-loop-number : goal.invariant-loop-number
invariant-loop-number g l = IsOver l.records.list (record_room_of l.records) l.index
