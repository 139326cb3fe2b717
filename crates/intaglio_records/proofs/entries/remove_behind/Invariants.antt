-- The lines have the entries of the first `count` records, and `count` goes down to `n` if it began above it.
use Rattle.std.proofs.Common.{◌≡◌, ◌≤◌, length, min}
use Rattle.intaglio_records.proofs.Names.{IsFilled, places_of, entries}
use Rattle.intaglio_records.proofs.entries.remove_behind.Given as goal

abbrev pub invariant-loop-count : goal.invariant-loop-count
invariant-loop-count l = record {
  filled : IsFilled l.lines (entries l.is_long l.records.list l.count);
  places : places_of l.lines ≡ places_of l.initial.lines;
  within : l.count ≤ length l.records.list;
  above : min l.n (length l.records.list) ≤ l.count;
}

abbrev pub decreases-loop-count : goal.decreases-loop-count
decreases-loop-count l = l.count
