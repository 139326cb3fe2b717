-- What the other sets write.
use Rattle.std.proofs.Common.{◌≡◌, drop, flat_map}
use Rattle.intaglio_frozen.proofs.Names.{with_keys, merge_bytes, set_bytes}
use Rattle.std.specs.Hash.DefaultHasher.{write}
use Rattle.intaglio_frozen.proofs.set_id.hash_sets.Given as goal

abbrev pub invariant-loop-set : goal.invariant-loop-set
invariant-loop-set l = write l.hasher (flat_map set_bytes (drop l.set-index l.sets))
    ≡ write (with_keys 3 l.key) (merge_bytes l.shards l.sets)
