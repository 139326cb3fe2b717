-- The rows so far that pass were counted.
use Rattle.intaglio_columns.specs.Layout.{codes}
use Rattle.intaglio_columns.proofs.Names.{CountsAmong}
use Rattle.intaglio_columns.proofs.file.column.Column.count_among.Given as goal

abbrev pub invariant-loop-row : goal.invariant-loop-row
invariant-loop-row g l = CountsAmong (g.T.CodeTest.passes l.test) l.from l.row (codes l.self) l.count
