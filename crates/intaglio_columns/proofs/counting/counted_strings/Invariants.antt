-- The lines of the ranks so far.
use Rattle.std.proofs.Common.{◌≡◌, take}
use Rattle.intaglio_columns.proofs.Names.{flat_map, count_line, rank_line}
use Rattle.intaglio_columns.proofs.counting.counted_strings.Given as goal

abbrev pub invariant-loop-rank : goal.invariant-loop-rank
invariant-loop-rank g l = flat_map (λ it. count_line it.0 it.1.now) l.lines.items
    ≡ flat_map (rank_line (g.D.Dictionary.strings l.table) l.counts) (take l.rank-index l.ordered)
