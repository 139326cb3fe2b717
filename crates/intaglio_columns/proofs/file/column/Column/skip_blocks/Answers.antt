-- The bound of the loop is the number of codes, and that of the contract the number of rows: they are equal.
use Rattle.intaglio_columns.proofs.Names.{common_steps}
use Rattle.std.proofs.Common.{arith}
use Rattle.intaglio_columns.proofs.CodesInFile.{all-length}
use Rattle.intaglio_columns.proofs.file.column.Column.skip_blocks.Goals as goal

pub loop-row-init : goal.loop-row-init
loop-row-init g c = grind (arith, common_steps, all-length)
