-- The shards so far.
use Rattle.std.proofs.Common.{◌≡◌, ◌≤◌, map, vec_len, vec_capacity}
use Rattle.intaglio_frozen.proofs.Names.{first_shards}
use Rattle.intaglio_frozen.proofs.sharding.lists_of.Given as goal

abbrev pub invariant-loop-number : goal.invariant-loop-number
invariant-loop-number g l = record {
  shards : map (λ ws. map (λ w. w.now) ws.items) l.split.items
      ≡ first_shards l.count (g.L.StringList.strings l.list) l.number;
  len : vec_len l.split ≡ l.number;
  room : l.count ≤ vec_capacity l.split;
}
