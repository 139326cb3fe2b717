-- The rows so far, and those from the next one on.
use Rattle.std.proofs.Common.{◌≡◌, ◌-◌, ◌==◌, ◌++◌, length}
use Rattle.intaglio_columns.specs.Layout.{codes}
use Rattle.intaglio_columns.proofs.Names.{rows_of, rows_past}
use Rattle.intaglio_columns.proofs.file.column.Column.rows_of.Given as goal

abbrev pub invariant-loop-row : goal.invariant-loop-row
invariant-loop-row l =
    l.rows.items ++ rows_past (λ c. c == l.code) l.from (codes l.self) ≡ rows_of l.code (codes l.self)

abbrev pub decreases-loop-row : goal.decreases-loop-row
decreases-loop-row l = length (codes l.self) - l.from
