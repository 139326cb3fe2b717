-- What the other shards write.
use Rattle.std.proofs.Common.{◌≡◌, drop, flat_map}
use Rattle.intaglio_frozen.proofs.Names.{with_keys, shard_bytes, shards_bytes}
use Rattle.std.specs.Hash.DefaultHasher.{write}
use Rattle.intaglio_frozen.proofs.set_id.hash_shards.Given as goal

abbrev pub invariant-loop-id : goal.invariant-loop-id
invariant-loop-id l = write l.hasher (flat_map shard_bytes (drop l.id-index l.ids))
    ≡ write (with_keys 2 l.key) (shards_bytes l.ids)
