-- The strings so far belong to the shard.
use Rattle.intaglio_frozen.proofs.Names.{BelongBefore}
use Rattle.intaglio_frozen.proofs.shards.first_misplaced.Given as goal

abbrev pub invariant-loop-i : goal.invariant-loop-i
invariant-loop-i l = BelongBefore l.i l.count l.shard l.table
