-- The rows put and those from `from` on with the code are always all of them: a step puts the first of these.
use Rattle.intaglio_columns.proofs.Ranged.{none-put, row-put}
use Rattle.intaglio_columns.proofs.matching.put_rows_of.Goals as goal

pub loop-row-init : goal.loop-row-init
loop-row-init g c = none-put

pub loop-row-preserved : goal.loop-row-preserved
loop-row-preserved g c =
    row-put _ c.loop-row.invariant c.in-Some.ensures c.in_ok-put_number.ensures
