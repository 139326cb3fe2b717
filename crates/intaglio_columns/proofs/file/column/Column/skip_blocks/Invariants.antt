-- No row so far passes.
use Rattle.std.proofs.Common.{◌≡◌, ◌≤◌, ◌-◌, length}
use Rattle.intaglio_columns.specs.Layout.{codes}
use Rattle.intaglio_columns.proofs.Names.{rows_past}
use Rattle.intaglio_columns.proofs.file.column.Column.skip_blocks.Given as goal

abbrev pub invariant-loop-row : goal.invariant-loop-row
invariant-loop-row g l = record {
  same : rows_past (g.T.CodeTest.passes l.test) l.row (codes l.self) ≡ rows_past (g.T.CodeTest.passes l.test)
      l.from (codes l.self);
  order : l.from ≤ l.row;
  within : l.row ≤ length (codes l.self);
}

abbrev pub decreases-loop-row : goal.decreases-loop-row
decreases-loop-row g l = length (codes l.self) - l.row
