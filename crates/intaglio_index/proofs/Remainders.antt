-- A remainder without a division.
use Rattle.std.proofs.Common.{◌≡◌, ℕ, ◌+◌, ◌-◌, ◌*◌, ◌/◌, ◌%◌, ◌^◌, ◌<◌, ◌≤◌, sym, ap, ◌∙◌, arith, inl, inr}
use Rattle.intaglio_index.proofs.Names.{IsPowerOfTwo, bit_and, cases_lt, and_mask, div-add-mod', mod-mul-add, mul-le-mul_left, mul-le-mul_right}

-- by a power of two
pub masked : (hash count mask : ℕ) → IsPowerOfTwo (mask + 1) → count ≡ mask + 1 →
    bit_and hash mask ≡ hash % count
masked hash count mask power same =
    let ones : mask ≡ 2 ^ power.0 - 1 = omega (arith, power.1) in
    let whole : count ≡ 2 ^ power.0 = same ∙ power.1 in
    rw (ones, whole) (and_mask hash power.0)

-- `size` hashes, the reciprocal with what is left over, a hash, and the quotient that the
-- reciprocal gives with what is left over
module _ (size count inverse over hash quotient left : ℕ) (reciprocal : inverse * count + over + 1 ≡ size)
    (below : over < count)
    (product : hash * inverse ≡ quotient * size + left) (lower : left < size) (small : hash < size) where
  whole : quotient * count * size + left * count + hash * over + hash ≡ hash * size
  whole =
      let h : hash * (inverse * count + over + 1) ≡ hash * size = ap (λ n. hash * n) reciprocal in
      let p : hash * inverse * count ≡ (quotient * size + left) * count = ap (λ n. n * count) product in
      omega (arith, h, p)

  below-quotient : quotient * count ≤ hash
  below-quotient = elim (cases_lt hash (quotient * count)) [
    | inl above ↦ (let next : hash + 1 ≤ quotient * count = omega arith in
        let scaled : (hash + 1) * size ≤ quotient * count * size = mul-le-mul_right size next in
        absurd (omega (arith, whole, scaled)))
    | inr at_most ↦ at_most
  ]

  one-short : hash < quotient * count + 2 * count
  one-short = elim (cases_lt hash (quotient * count + 2 * count)) [
    | inl less ↦ less
    | inr far ↦
        (let scaled : (quotient * count + 2 * count) * size ≤ hash * size = mul-le-mul_right size far in
        let left_next : left + 1 ≤ size = omega arith in
        let hash_next : hash + 1 ≤ size = omega arith in
        let over_next : over + 1 ≤ count = omega arith in
        let first : (left + 1) * count ≤ size * count = mul-le-mul_right count left_next in
        let second : (hash + 1) * count ≤ size * count = mul-le-mul_right count hash_next in
        let third : hash * (over + 1) ≤ hash * count = mul-le-mul_left hash over_next in
        absurd (omega (arith, whole, scaled, first, second, third)))
  ]

module _ (hash count inverse : ℕ) (some : 0 < count) (is : inverse ≡ (2 ^ 64 - 1) / count)
    (small : hash < 2 ^ 64) where
  reciprocal : inverse * count + (2 ^ 64 - 1) % count + 1 ≡ 2 ^ 64
  reciprocal = rw is (omega (arith, div-add-mod' (2 ^ 64 - 1) count))

  product : hash * inverse ≡ hash * inverse / 2 ^ 64 * 2 ^ 64 + hash * inverse % 2 ^ 64
  product = sym (div-add-mod' (hash * inverse) (2 ^ 64))

  -- the quotient by the reciprocal is not above the true one
  pub by-reciprocal : hash * inverse / 2 ^ 64 * count ≤ hash
  by-reciprocal = below-quotient (2 ^ 64) count inverse ((2 ^ 64 - 1) % count) hash (hash * inverse / 2 ^ 64)
      (hash * inverse % 2 ^ 64) reciprocal (omega arith) product (omega arith) small

  -- and at most one below
  pub by-reciprocal-near : hash < hash * inverse / 2 ^ 64 * count + 2 * count
  by-reciprocal-near = one-short (2 ^ 64) count inverse ((2 ^ 64 - 1) % count) hash (hash * inverse / 2 ^ 64)
      (hash * inverse % 2 ^ 64) reciprocal (omega arith) product (omega arith) small

-- a rest below the count is the remainder
pub rest-is : (hash count quotient rest : ℕ) → hash ≡ quotient * count + rest → rest < count →
    rest ≡ hash % count
rest-is hash count quotient rest e l = rw e (sym (mod-mul-add quotient count rest l))
