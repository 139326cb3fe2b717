-- Two codes of a width are equal exactly if they are once widened.
use Rattle.intaglio_columns.proofs.Names.{common_steps}
use Rattle.std.proofs.Common.{◌∙◌, ◌==◌, arith}
use Rattle.intaglio_columns.proofs.CodesInFile.{code-is, same-widened}
use Rattle.intaglio_columns.proofs.file.code.Code.is_at.Goals as goal

pub returns : goal.returns
returns g c = grind (arith, common_steps, code-is, same-widened)
