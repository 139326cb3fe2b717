-- The strings of the shards so far belong to them, and no two of a shard are equal.
use Rattle.std.proofs.Common.{◌≡◌, ℕ, List, ◌<◌, Some, slice_get}
use Rattle.intaglio_frozen.proofs.Names.{Distinct, string_key, BelongTo}
use Rattle.intaglio_frozen.proofs.shards.check_each.Given as goal

abbrev pub invariant-loop-shard : goal.invariant-loop-shard
invariant-loop-shard l = record {
  placed : (t : ℕ) (ws : List (List ℕ)) → t < l.shard → slice_get l.tables t ≡ Some ws →
      BelongTo l.count t ws;
  distinct : (t : ℕ) (ws : List (List ℕ)) → t < l.shard → slice_get l.tables t ≡ Some ws →
      Distinct string_key ws;
}
