-- The ranks of the symbols so far.
use Rattle.std.proofs.Common.{◌≡◌, ◌==◌, not, map, take}
use Rattle.intaglio_columns.proofs.Names.{rows_from, rank_of}
use Rattle.intaglio_columns.proofs.counting.ranks.Given as goal

abbrev pub invariant-loop-symbol : goal.invariant-loop-symbol
invariant-loop-symbol l =
    l.all.items ≡ map (rank_of l.counts) (rows_from (λ n. not (n == 0)) 0 (take l.symbol l.counts))
