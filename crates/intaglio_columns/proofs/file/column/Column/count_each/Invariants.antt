-- The counts of the codes so far.
use Rattle.intaglio_columns.proofs.Names.{strings}
use Rattle.intaglio_columns.specs.Layout.{codes}
use Rattle.intaglio_columns.proofs.Counted.{IsTally}
use Rattle.intaglio_columns.proofs.file.column.Column.count_each.Given as goal

abbrev pub invariant-loop-row : goal.invariant-loop-row
invariant-loop-row g l = IsTally (strings l.self) (codes l.self) l.row l.of l.missing
