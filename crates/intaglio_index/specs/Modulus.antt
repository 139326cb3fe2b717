-- What makes a division by the number of buckets unnecessary.
use Rattle.std.specs.Prelude.{◌≡◌, ◌+◌, ◌-◌, ◌/◌, ◌^◌, ◌<◌, ◌≤◌}
use Rattle.std.specs.Int.{IsPowerOfTwo}
use Rattle.intaglio_index.specs.declared.index.modulus.Modulus.{Modulus}

pub record IsModulus (m : Modulus) : Type 0 where
  -- the mask is a power of two minus one, and the count is at most that power
  pub power : IsPowerOfTwo (m.mask + 1)
  pub fits : m.mask < 2 ^ 64
  pub within : m.count ≤ m.mask + 1
  pub inverse : 0 < m.count → m.inverse ≡ (2 ^ 64 - 1) / m.count
