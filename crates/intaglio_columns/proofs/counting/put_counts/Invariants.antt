-- The lines so far were put.
use Rattle.std.proofs.Common.{take}
use Rattle.intaglio_columns.proofs.Names.{flat_map, Appends, append_known, count_line}
use Rattle.intaglio_columns.proofs.counting.put_counts.Given as goal

abbrev pub invariant-loop-count : goal.invariant-loop-count
invariant-loop-count g l = Appends (append_known (g.W.Write.contents l.initial.writer) l.initial.block.items)
    (append_known (g.W.Write.contents l.writer) l.block.items)
    (flat_map (λ it. count_line it.0 it.1.now) (take l.count-index l.lines))
