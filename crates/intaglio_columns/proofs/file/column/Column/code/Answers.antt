-- The case by hand is that of a row past the end: there are as many codes as rows, so it has none.
use Rattle.intaglio_columns.proofs.Names.{common_steps, slice_get_past}
use Rattle.std.proofs.Common.{arith}
use Rattle.intaglio_columns.proofs.CodesInFile.{all-length}
use Rattle.intaglio_columns.proofs.file.column.Column.code.Goals as goal

pub returns-then-row-self : goal.returns-then-row-self
returns-then-row-self c = grind (arith, common_steps, slice_get_past, all-length)
