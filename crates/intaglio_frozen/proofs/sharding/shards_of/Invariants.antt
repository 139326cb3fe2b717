-- The shards of the strings so far.
use Rattle.std.proofs.Common.{◌≡◌, ◌<◌, ◌≤◌, ℕ, get_or, length, map, take, vec_len, vec_capacity}
use Rattle.intaglio_frozen.specs.Shards.{shard_of}
use Rattle.intaglio_frozen.proofs.sharding.shards_of.Given as goal

abbrev pub invariant-loop-i : goal.invariant-loop-i
invariant-loop-i g l = record {
  shards : l.shards.items ≡ map (shard_of l.count) (take l.i (g.L.StringList.strings l.list));
  below : (k : ℕ) → k < length l.shards.items → get_or l.shards.items k 0 < l.count;
  len : vec_len l.shards ≡ l.i;
  room : length (g.L.StringList.strings l.list) ≤ vec_capacity l.shards;
}
