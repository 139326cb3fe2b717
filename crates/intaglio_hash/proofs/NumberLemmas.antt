-- Fewer than eight bytes as one number, by reads that may overlap.
use Rattle.std.proofs.Common.{◌≡◌, ℕ, zero, suc, ◌+◌, ◌-◌, ◌*◌, ◌/◌, ◌%◌, ◌^◌, ◌<◌, ◌≤◌, List, get_or, bit_or, ◌∙◌, arith}
use lib.Bits.{or_zero_r, or_shifted_r, or_self}
use Rattle.intaglio_hash.specs.Push.{number}
use Rattle.intaglio_hash.proofs.PushLemmas.{or-assoc}

module _ (bs : List ℕ) (byte : (k : ℕ) → get_or bs k 0 < 256) where
  -- four to seven bytes: the first four, and what the last four have beyond them
  pub number-halves : (n low high : ℕ) → 4 ≤ n → n < 8 → low ≡ number bs 0 0 4 → high ≡ number bs (n - 4) 0 4
      → bit_or low ((high / 2 ^ (8 * (8 - n)) * 2 ^ 32) % 2 ^ 64) ≡ number bs 0 0 n
  number-halves zero low high p q l h = absurd (omega arith)
  number-halves (suc zero) low high p q l h = absurd (omega arith)
  number-halves (suc (suc zero)) low high p q l h = absurd (omega arith)
  number-halves (suc (suc (suc zero))) low high p q l h = absurd (omega arith)
  number-halves (suc (suc (suc (suc zero)))) low high p q l h =
      let none : (high / 2 ^ 32 * 2 ^ 32) % 2 ^ 64 ≡ 0 = omega (arith, h, byte 0, byte 1, byte 2, byte 3) in
      rw none (or_zero_r low ∙ l)
  number-halves (suc (suc (suc (suc (suc zero))))) low high p q l h =
      let above = get_or bs 4 0 in
      let beyond : (high / 2 ^ 24 * 2 ^ 32) % 2 ^ 64 ≡ above * 2 ^ 32 =
      omega (arith, h, byte 1, byte 2, byte 3, byte 4) in
      let sum = or_shifted_r above 32 low (omega (arith, l, byte 0, byte 1, byte 2, byte 3)) in
      rw (beyond, sum) (omega (arith, l))
  number-halves (suc (suc (suc (suc (suc (suc zero)))))) low high p q l h =
      let above = get_or bs 4 0 + 256 * get_or bs 5 0 in
      let beyond : (high / 2 ^ 16 * 2 ^ 32) % 2 ^ 64 ≡ above * 2 ^ 32 =
      omega (arith, h, byte 2, byte 3, byte 4, byte 5) in
      let sum = or_shifted_r above 32 low (omega (arith, l, byte 0, byte 1, byte 2, byte 3)) in
      rw (beyond, sum) (omega (arith, l))
  number-halves (suc (suc (suc (suc (suc (suc (suc zero))))))) low high p q l h =
      let above = get_or bs 4 0 + 256 * get_or bs 5 0 + 65536 * get_or bs 6 0 in
      let beyond : (high / 2 ^ 8 * 2 ^ 32) % 2 ^ 64 ≡ above * 2 ^ 32 =
      omega (arith, h, byte 3, byte 4, byte 5, byte 6) in
      let sum = or_shifted_r above 32 low (omega (arith, l, byte 0, byte 1, byte 2, byte 3)) in
      rw (beyond, sum) (omega (arith, l))
  number-halves (suc (suc (suc (suc (suc (suc (suc (suc n)))))))) low high p q l h = absurd (omega arith)

  -- one to three bytes: the first, the middle and the last
  pub number-bytes : (n : ℕ) → 0 < n → n < 4
      → bit_or (bit_or (get_or bs 0 0) ((get_or bs (n / 2) 0 * 2 ^ (8 * (n / 2))) % 2 ^ 64))
      ((get_or bs (n - 1) 0 * 2 ^ (8 * (n - 1))) % 2 ^ 64) ≡ number bs 0 0 n
  number-bytes zero p q = absurd (omega arith)
  number-bytes (suc zero) p q =
      let b = get_or bs 0 0 in
      let same : (b * 2 ^ 0) % 2 ^ 64 ≡ b = omega (arith, byte 0) in
      rw (same, or_self b, or_self b) (omega arith)
  number-bytes (suc (suc zero)) p q =
      let a = get_or bs 0 0 in
      let b = get_or bs 1 0 in
      let up : (b * 2 ^ 8) % 2 ^ 64 ≡ b * 2 ^ 8 = omega (arith, byte 1) in
      rw (up, or-assoc a (b * 2 ^ 8) (b * 2 ^ 8), or_self (b * 2 ^ 8), or_shifted_r b 8 a (byte 0))
      (omega arith)
  number-bytes (suc (suc (suc zero))) p q =
      let a = get_or bs 0 0 in
      let b = get_or bs 1 0 in
      let d = get_or bs 2 0 in
      let up : (b * 2 ^ 8) % 2 ^ 64 ≡ b * 2 ^ 8 = omega (arith, byte 1) in
      let top : (d * 2 ^ 16) % 2 ^ 64 ≡ d * 2 ^ 16 = omega (arith, byte 2) in
      rw (
        up,
        top,
        or_shifted_r b 8 a (byte 0),
        or_shifted_r d 16 (b * 2 ^ 8 + a) (omega (arith, byte 0, byte 1)),
      ) (omega arith)
  number-bytes (suc (suc (suc (suc n)))) p q = absurd (omega arith)
