-- `Column::open` returns only what is a column, so the map that is pushed is one like those before it.
use Rattle.std.proofs.Common.{All, sym, subst}
use Rattle.std.proofs.lemmas.List.Elements.{All-push}
use Rattle.intaglio_columns.specs.IsColumn.{IsColumn}
use Rattle.intaglio_dict.proofs.renumbering.open_maps.Goals as goal

pub loop-number-preserved : goal.loop-number-preserved
loop-number-preserved g c =
    let column = subst IsColumn (sym c.in-Ok.ensures.bytes) c.in-Ok.ensures.column in
    subst (All IsColumn) (sym c.in-Ok-push.ensures.items)
    (All-push IsColumn c.loop-number.opened.items c.in-Ok.map c.loop-number.invariant column)
