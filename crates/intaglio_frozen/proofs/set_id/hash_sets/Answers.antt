-- The two numbers in front of the sets are written first, and all sets are left (`written-behind`). A turn
-- writes the bytes of the first that is left (`next-item`).
use Rattle.std.proofs.Common.{◌∙◌, ◌++◌, length, arith, flat_map}
use Rattle.intaglio_frozen.proofs.Names.{with_keys, number_bytes, set_bytes}
use Rattle.intaglio_frozen.proofs.Hashed.{next-item, written-behind}
use Rattle.intaglio_frozen.proofs.set_id.hash_sets.Goals as goal

pub loop-set-init : goal.loop-set-init
loop-set-init c =
    written-behind (with_keys 3 c.args.key) c.write_two.new.hasher (number_bytes c.args.shards ++ number_bytes (length c.args.sets.now)) (flat_map set_bytes c.args.sets.now)
    (rw (← c.with_keys-hasher.ensures) c.write_two.ensures)

pub loop-set-preserved : goal.loop-set-preserved
loop-set-preserved c =
    next-item set_bytes c.loop-set.hasher c.write_two-in-loop-set.new.hasher c.loop-set.set-index
    (record { hash0 = 0; hash1 = 0 }) c.args.sets.now (omega (arith, c.loop-set-test.true))
    c.write_two-in-loop-set.ensures ∙ c.loop-set.invariant
