-- A change leaves the index over the records, and a step that only looks changes neither.
use Rattle.intaglio_records.specs.Index.{IsOver}
use Rattle.intaglio_records.specs.Records.{record_room_of}
use Rattle.tests.proofs.tests.units.records.plays.Given as goal

abbrev pub invariant-loop-step : goal.invariant-loop-step
invariant-loop-step g l = IsOver l.records.list (record_room_of l.records) l.index
