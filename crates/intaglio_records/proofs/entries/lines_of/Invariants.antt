-- The lines have the entries of the records so far. How many there is room for doesn't change.
use Rattle.std.proofs.Common.{◌≤◌, ◌+◌, ◌*◌}
use Rattle.intaglio_records.proofs.Names.{IsFilled, places_of, entries}
use Rattle.intaglio_records.proofs.entries.lines_of.Given as goal

abbrev pub invariant-loop-i : goal.invariant-loop-i
invariant-loop-i l = record {
  filled : IsFilled l.lines (entries l.is_long l.records.list l.i);
  places : l.places ≤ places_of l.lines;
  tight : places_of l.lines ≤ 2 * l.places + 6;
}
