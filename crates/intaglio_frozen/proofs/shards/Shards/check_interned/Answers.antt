-- Equal strings belong to one shard, so the first one among all is in the shard that is searched, at its
-- place there, counted on from where the shard begins (`found-some`).
use Rattle.std.proofs.Common.{◌∙◌, Some, ap, arith, sym}
use Rattle.intaglio_frozen.proofs.Sharded.{found-some}
use Rattle.intaglio_frozen.proofs.shards.Shards.check_interned.Goals as goal

pub returns-in-Some : goal.returns-in-Some
returns-in-Some c =
    let found = found-some c.self.inside.tables.items c.self.inside.starts.items c.self.invariant.starts
    c.self.invariant.placed c.args.string.now c.len.result c.shard_of-shard.result
    c.index.result.now (omega (arith, c.len.ensures, c.self.inside.tables.ok.0))
    c.shard_of-shard.ensures.value c.shard_of-shard.ensures.below c.index.ensures
    c.index-in-Some.result.now c.id.result c.index-in-Some.ensures (ap Some c.id.ensures ∙ sym c.in-Some.is
    ∙ c.check_interned.ensures.value) in
    rw (← c.self.view_is) (ap Some c.new.ensures ∙ found)
