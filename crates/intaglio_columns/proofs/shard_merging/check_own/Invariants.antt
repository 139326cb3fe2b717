-- The strings of the parts so far belong to the shard.
use Rattle.intaglio_columns.proofs.Names.{AreOwnBefore}
use Rattle.intaglio_columns.proofs.shard_merging.check_own.Given as goal

abbrev pub invariant-loop-part : goal.invariant-loop-part
invariant-loop-part l = AreOwnBefore l.part l.shards l.shard l.parts
