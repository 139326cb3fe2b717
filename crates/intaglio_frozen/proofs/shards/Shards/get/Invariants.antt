-- The string is looked for in the shards that are left.
use Rattle.std.proofs.Common.{◌≡◌, drop, slice_get}
use Rattle.intaglio_frozen.proofs.Names.{joined}
use Rattle.intaglio_frozen.proofs.shards.Shards.get.Given as goal

abbrev pub invariant-loop-shard : goal.invariant-loop-shard
invariant-loop-shard l =
    slice_get (joined l.self) l.fn.symbol ≡ slice_get (joined (drop l.shard l.self)) l.number
