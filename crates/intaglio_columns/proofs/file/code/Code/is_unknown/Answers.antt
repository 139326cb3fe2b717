-- What isn't below the number of strings is unknown, unless it is the greatest code.
use Rattle.intaglio_columns.proofs.Names.{common_steps, is_unknown}
use Rattle.std.proofs.Common.{◌∙◌, arith}
use Rattle.intaglio_columns.proofs.CodesInFile.{code-is, unknown-above, unknown-below}
use Rattle.intaglio_columns.proofs.file.code.Code.is_unknown.Goals as goal

pub returns-then-code-number : goal.returns-then-code-number
returns-then-code-number g c = grind (arith, common_steps, code-is, unknown-above)

pub returns-else-code-number : goal.returns-else-code-number
returns-else-code-number g c = grind (arith, common_steps, code-is, unknown-below)
