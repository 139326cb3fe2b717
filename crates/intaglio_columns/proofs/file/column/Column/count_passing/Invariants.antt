-- The rows so far that pass were counted.
use Rattle.std.proofs.Common.{◌≡◌, ◌+◌, ◌≤◌, ◌-◌, length}
use Rattle.intaglio_columns.specs.Layout.{codes}
use Rattle.intaglio_columns.proofs.Names.{rows_past}
use Rattle.intaglio_columns.proofs.file.column.Column.count_passing.Given as goal

abbrev pub invariant-loop-row : goal.invariant-loop-row
invariant-loop-row g l = record {
  count : length (rows_past (g.T.CodeTest.passes l.test) 0 (codes l.self))
      ≡ l.count + length (rows_past (g.T.CodeTest.passes l.test) l.row (codes l.self));
  few : l.count ≤ l.row;
  within : l.row ≤ length (codes l.self);
}

abbrev pub decreases-loop-row : goal.decreases-loop-row
decreases-loop-row g l = length (codes l.self) - l.row
