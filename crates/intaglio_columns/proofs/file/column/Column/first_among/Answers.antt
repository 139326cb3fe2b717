-- The rows skipped don't pass, so of those from `from` on that pass this one is the first.
use Rattle.intaglio_columns.proofs.Names.{common_steps}
use Rattle.std.proofs.Common.{◌∙◌, ◌<◌, arith}
use Rattle.intaglio_columns.proofs.CodesInFile.{all-length}
use Rattle.intaglio_columns.proofs.Past.{past-yes}
use Rattle.intaglio_columns.proofs.file.column.Column.first_among.Goals as goal

pub returns-then-passes : goal.returns-then-passes
returns-then-passes g c = grind (arith, common_steps, all-length, past-yes)
