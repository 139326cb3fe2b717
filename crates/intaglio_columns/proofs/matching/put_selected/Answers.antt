-- The rows put and those selected from `from` on are always all: a step puts the first of the latter.
use Rattle.intaglio_columns.proofs.Ranged.{none-put, row-put}
use Rattle.intaglio_columns.proofs.matching.put_selected.Goals as goal

pub loop-row-init : goal.loop-row-init
loop-row-init g c = none-put

pub loop-row-preserved : goal.loop-row-preserved
loop-row-preserved g c =
    row-put _ c.loop-row.invariant c.in-Some.ensures c.in_ok-put_number.ensures
