-- The two numbers in front of the shards are written first, and all shards are left (`written-behind`). A
-- turn writes the bytes of the first that is left (`next-item`).
use Rattle.std.proofs.Common.{◌∙◌, ◌++◌, length, get_or, ap, false, arith, flat_map}
use Rattle.intaglio_frozen.proofs.Names.{with_keys, DictionaryId, first_kind, number_bytes, shard_bytes}
use Rattle.std.specs.Hash.DefaultHasher.{write}
use Rattle.intaglio_frozen.proofs.Hashed.{next-item, written-behind}
use Rattle.intaglio_frozen.proofs.set_id.hash_shards.Goals as goal

abbrev none : DictionaryId
none = record { is_text = false; count = 0; hash0 = 0; hash1 = 0 }

pub loop-id-init : goal.loop-id-init
loop-id-init c =
    let ids = c.args.ids.now in
    let begin = number_bytes (length ids) ++ number_bytes (first_kind ids) in
    written-behind (with_keys 2 c.args.key) c.write_two.new.hasher begin (flat_map shard_bytes ids)
    (rw (← c.with_keys-hasher.ensures, ← c.first_kind.ensures) c.write_two.ensures)

pub loop-id-preserved : goal.loop-id-preserved
loop-id-preserved c =
    let h = c.loop-id.hasher in
    let id = get_or c.args.ids.now c.loop-id.id-index none in
    let written = c.write_two-in-loop-id.ensures
    ∙ written-behind h c.write.new.self (number_bytes id.count) (number_bytes id.hash0 ++ number_bytes id.hash1)
    (c.write.ensures ∙ ap (write h) c.to_le_bytes.ensures) in
    next-item shard_bytes h c.write_two-in-loop-id.new.hasher c.loop-id.id-index none c.args.ids.now
    (omega (arith, c.loop-id-test.true)) written ∙ c.loop-id.invariant
