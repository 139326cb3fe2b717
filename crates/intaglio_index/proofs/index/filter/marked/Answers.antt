-- The top three bits of a hash are below 8, so they number a bit of the byte. Setting it leaves the others.
use Rattle.std.proofs.Common.{◌<◌, ◌/◌, ◌^◌, ◌∙◌, arith, inl, inr, ℕ, w8}
use Rattle.intaglio_index.proofs.Names.{eqb_tells, bit_at_set_same, bit_at_set_other}
use Rattle.intaglio_index.proofs.index.filter.marked.Goals as goal

pub returns-clause-set : goal.returns-clause-set
returns-clause-set c =
    let within : c.args.hash / 2 ^ 61 < 8 = omega (arith, c.ranges.hash.fits) in
    bit_at_set_same w8 c.args.filter (c.args.hash / 2 ^ 61) within

pub returns-clause-kept : goal.returns-clause-kept
returns-clause-kept c =
    let k : ℕ = c.args.hash / 2 ^ 61 in
    let within : k < 8 = omega (arith, c.ranges.hash.fits) in
    λ other e. elim (eqb_tells (other / 2 ^ 61) k) [
      | inl h ↦ rw h.1 (bit_at_set_same w8 c.args.filter k within)
      | inr h ↦ bit_at_set_other w8 c.args.filter k within (other / 2 ^ 61) h.1 ∙ e
    ]
