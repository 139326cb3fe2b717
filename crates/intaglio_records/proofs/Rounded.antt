-- A number that is rounded up to a power of two.
use Rattle.std.proofs.Common.{◌≡◌, ℕ, ◌/◌, ◌^◌, ◌<◌, ◌≤◌, max, inl, inr, arith}
use Rattle.std.proofs.Math.Pow.{pow-lt}
use Rattle.intaglio_records.proofs.Names.{cases_lt, IsPowerOfTwo}

-- what is within 2^29 stays so
pub rounded_within : (n p : ℕ) → IsPowerOfTwo p → p / 2 < max 1 n → n ≤ 2 ^ 29 → p ≤ 2 ^ 29
rounded_within n p power least le =
    elim (cases_lt power.0 29) [
      | inl low ↦ let below : 2 ^ power.0 < 2 ^ 29 = pow-lt low in omega (arith, power.1, below)
      | inr high ↦ elim (cases_lt 29 power.0) [
        | inr same ↦ let at : power.0 ≡ 29 = omega arith in rw (power.1, at) (omega arith)
        | inl higher ↦ elim (cases_lt 30 power.0) [
          | inl above ↦ let large : 2 ^ 30 < 2 ^ power.0 = pow-lt above in
              absurd (omega (arith, power.1, large, least, le))
          | inr next ↦ let at : power.0 ≡ 30 = omega arith in let is : p ≡ 2 ^ 30 =
              rw (power.1, at) (omega arith) in absurd (omega (arith, is, least, le))
        ]
      ]
    ]
