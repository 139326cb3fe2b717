-- Behind the last row none is left, so the count is that of all rows that pass, one for each code that does.
use Rattle.intaglio_columns.proofs.Names.{common_steps}
use Rattle.std.proofs.Common.{arith}
use Rattle.intaglio_columns.proofs.Past.{past-end, rows-count}
use Rattle.intaglio_columns.proofs.file.column.Column.count_passing.Goals as goal

pub returns : goal.returns
returns g c = grind (arith, common_steps, past-end, rows-count)
