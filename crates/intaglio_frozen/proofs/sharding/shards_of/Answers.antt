-- A turn adds the shard of the next string (`take_there`), which `shard_of` says is below `count`.
use Rattle.intaglio_frozen.proofs.Names.{common_steps}
use Rattle.std.proofs.Common.{◌≡◌, ◌∙◌, ◌<◌, ◌++◌, [], ◌∷◌, rules, arith}
use Rattle.intaglio_frozen.specs.Shards.{shard_of}
use Rattle.intaglio_frozen.proofs.HashedAhead.{take_there}
use Rattle.intaglio_frozen.proofs.sharding.shards_of.Goals as goal

pub loop-i-preserved : goal.loop-i-preserved
loop-i-preserved g c =
    let strings = g.L.StringList.strings c.args.list.now in
    let string = c.string.result.now in
    let items : c.push_reserved.new.self.items ≡ c.loop-i.shards.items ++ c.shard_of.result ∷ [] =
    search rules in
    let next = take_there strings c.loop-i.i string c.string.ensures in
    record {
      shards = grind (arith, common_steps);
      below = grind (arith, common_steps);
      len = omega (arith, c.push_reserved.ensures.len, c.loop-i.invariant.len);
      room = search rules;
    }
