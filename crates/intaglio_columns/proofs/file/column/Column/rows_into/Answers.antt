-- A row goes over the place after those of the rows before it. If there is no place left, it is only
-- counted, and `overlaid` drops it too.
use Rattle.intaglio_columns.proofs.Overlaid.{next-placed, none-placed}
use Rattle.intaglio_columns.proofs.file.column.Column.rows_into.Goals as goal

pub loop-row-init : goal.loop-row-init
loop-row-init c = none-placed

pub loop-row-preserved : goal.loop-row-preserved
loop-row-preserved c =
    next-placed c.loop-row.invariant c.in-Some.ensures c.put.ensures.there c.put.ensures.none
