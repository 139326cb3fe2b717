-- `at` is a multiple of 16, so the block that a turn mixes begins at 16 * (at / 16), as std's does.
use Rattle.std.proofs.Common.{◌≡◌, ◌+◌, ◌*◌, ◌/◌, suc, ℕ, refl, arith}
use Rattle.std.specs.Hash.FoldHasher.{mix_blocks}
use Rattle.intaglio_hash.proofs.fixed_hasher.after_all.Goals as goal

pub loop-at-init : goal.loop-at-init
unfolding mix_blocks
loop-at-init c = (refl, omega arith, refl)

pub loop-at-preserved : goal.loop-at-preserved
unfolding mix_blocks
loop-at-preserved c =
    let at : ℕ = c.loop-at.at in
    let whole : at ≡ 16 * (at / 16) = omega (arith, c.loop-at.invariant.0) in
    let next : (at + 16) / 16 ≡ suc (at / 16) = omega arith in (
      omega arith,
      omega arith,
      rw (next, c.mixed-state.ensures, ← c.loop-at.invariant.2, ← whole),
    )
