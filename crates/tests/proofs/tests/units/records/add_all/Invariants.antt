-- `add` needs an index over the records, and leaves one, whatever it adds.
use Rattle.intaglio_records.specs.Index.{IsOver}
use Rattle.intaglio_records.specs.Records.{record_room_of}
use Rattle.tests.proofs.tests.units.records.add_all.Given as goal

abbrev pub invariant-loop-hash : goal.invariant-loop-hash
invariant-loop-hash g l = IsOver l.records.list (record_room_of l.records) l.index
