-- If `checked_next_power_of_two` returns `None`, the mask has all 64 bits set. Then the power is 2^64, and
-- each count is within it.
use Rattle.intaglio_index.proofs.Names.{common_steps, IsPowerOfTwo}
use Rattle.std.proofs.Common.{◌+◌, ◌<◌, ◌≤◌, ◌^◌, arith, refl}
use Rattle.intaglio_index.proofs.index.modulus.Modulus.new.Goals as goal
use Rattle.intaglio_index.proofs.index.modulus.Modulus.new.Goals.{in-Some, in-None}

pub returns-else-count-eq0-clause-made : goal.returns-else-count-eq0-clause-made
returns-else-count-eq0-clause-made c =
    let parts : IsPowerOfTwo (c.match-checked_next_power_of_two.mask + 1)
    × (c.match-checked_next_power_of_two.mask < 2 ^ 64)
    × (c.args.count ≤ c.match-checked_next_power_of_two.mask + 1) =
    elim c.match-checked_next_power_of_two.branch [
      | in-Some w ↦ grind (arith, common_steps)
      | in-None w ↦ (
        (64, omega (arith, w.mask-is)),
        omega (arith, w.mask-is),
        omega (arith, w.mask-is, c.ranges.count.fits),
      )
    ] in
    record { power = parts.0; fits = parts.1; within = parts.2; inverse = λ some. refl }
