-- Each map that was opened is a column.
use Rattle.std.proofs.Common.{All}
use Rattle.intaglio_columns.specs.IsColumn.{IsColumn}
use Rattle.intaglio_dict.proofs.renumbering.open_maps.Given as goal

abbrev pub invariant-loop-number : goal.invariant-loop-number
invariant-loop-number g l = All IsColumn l.opened.items
