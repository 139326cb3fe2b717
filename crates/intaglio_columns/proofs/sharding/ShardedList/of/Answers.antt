-- The invariant needs a list for each shard, and the split makes just so many, some of which may be empty.
use Rattle.std.proofs.Common.{map}
use Rattle.intaglio_columns.proofs.Shared.{shards-length}
use Rattle.intaglio_columns.proofs.sharding.ShardedList.of.Goals as goal

pub invariant_of-result : goal.invariant_of-result
invariant_of-result g c = record {
  counted = shards-length (λ ws. map (λ w. w.now) ws.items) c.in-Ok.lists.items c.args.shards
      (g.L.StringList.strings c.args.list.now) c.in-Ok.ensures.split;
}
