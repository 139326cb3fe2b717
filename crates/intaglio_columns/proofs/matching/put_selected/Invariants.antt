-- The numbers of the rows so far were put.
use Rattle.std.proofs.Common.{◌-◌, length}
use Rattle.intaglio_columns.proofs.Names.{append_known}
use Rattle.intaglio_columns.specs.Filter.{selects}
use Rattle.intaglio_columns.specs.Layout.{codes}
use Rattle.intaglio_columns.proofs.Ranged.{HavePut}
use Rattle.intaglio_columns.proofs.matching.put_selected.Given as goal

abbrev pub invariant-loop-row : goal.invariant-loop-row
invariant-loop-row g l =
    HavePut (selects l.filter) (codes l.column) l.from
    (append_known (g.W.Write.contents l.initial.writer) l.initial.block.items)
    (append_known (g.W.Write.contents l.writer) l.block.items)

abbrev pub decreases-loop-row : goal.decreases-loop-row
decreases-loop-row g l = length (codes l.column) - l.from
