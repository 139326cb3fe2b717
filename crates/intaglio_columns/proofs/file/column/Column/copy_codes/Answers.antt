-- Codes from `from` on are a list of their own, of which item i goes to place i. The loop ends with the codes
-- or with the places, and `overlaid` drops what has no place.
use Rattle.intaglio_columns.proofs.Names.{common_steps}
use Rattle.std.proofs.Common.{◌∙◌, arith, length-drop}
use Rattle.intaglio_columns.proofs.Overlaid.{overlaid-all, overlaid-next, read-behind}
use Rattle.intaglio_columns.proofs.file.column.Column.copy_codes.Goals as goal

pub loop-i-preserved : goal.loop-i-preserved
loop-i-preserved g c = grind (arith, common_steps, read-behind, overlaid-next)

pub returns-clause-codes : goal.returns-clause-codes
returns-clause-codes g c = grind (arith, common_steps, length-drop, overlaid-all)
