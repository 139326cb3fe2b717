-- The test as a number is 1 for a row that passes and 0 for another, and just so much is added to the count.
use Rattle.intaglio_columns.proofs.Names.{common_steps}
use Rattle.std.proofs.Common.{arith}
use Rattle.intaglio_columns.proofs.CodesInFile.{all-length}
use Rattle.intaglio_columns.proofs.Past.{counted-more}
use Rattle.intaglio_columns.proofs.file.column.Column.count_among.Goals as goal

pub loop-row-preserved : goal.loop-row-preserved
loop-row-preserved g c = grind (arith, common_steps, counted-more, all-length)
