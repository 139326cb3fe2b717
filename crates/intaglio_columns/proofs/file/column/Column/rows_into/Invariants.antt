-- The rows so far, over the first places.
use Rattle.std.proofs.Common.{◌-◌, ◌==◌, length}
use Rattle.intaglio_columns.specs.Layout.{codes}
use Rattle.intaglio_columns.proofs.Overlaid.{ArePlaced}
use Rattle.intaglio_columns.proofs.file.column.Column.rows_into.Given as goal

abbrev pub invariant-loop-row : goal.invariant-loop-row
invariant-loop-row l = ArePlaced (λ c. c == l.code) (codes l.self) l.initial.places l.from l.places l.count

abbrev pub decreases-loop-row : goal.decreases-loop-row
decreases-loop-row l = length (codes l.self) - l.from
