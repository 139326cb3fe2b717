-- The words of a `FoldHasher`, as numbers of several bytes.
use Rattle.std.proofs.Common.{◌≡◌, ℕ, ◌+◌, ◌*◌, ◌%◌, ◌^◌, ◌<◌, List, get_or, bit_or, ◌∙◌, sym, ap, arith, add-zero}
use Rattle.std.specs.Hash.FoldHasher.{read_u32, read_u64, mix}
use lib.Bits.{or_shifted_r}
use Rattle.intaglio_hash.specs.Push.{number}

module _ (bs : List ℕ) (byte : (k : ℕ) → get_or bs k 0 < 256) where
  -- four bytes as one number are what std reads as 32 bits
  pub number-half : (i : ℕ) → number bs i 0 4 ≡ read_u32 bs i
  unfolding read_u32
  number-half i = rw (add-zero i) (omega arith)

  half-below : (i : ℕ) → read_u32 bs i < 2 ^ 32
  unfolding read_u32
  half-below i = omega (arith, byte i, byte (i + 1), byte (i + 2), byte (i + 3))

  halves : (i : ℕ) → number bs i 0 8 ≡ read_u32 bs (i + 4) * 2 ^ 32 + read_u32 bs i
  unfolding read_u32
  halves i =
      let five : i + 4 + 1 ≡ i + 5 = omega arith in
      let six : i + 4 + 2 ≡ i + 6 = omega arith in
      let seven : i + 4 + 3 ≡ i + 7 = omega arith in
      rw (add-zero i, five, six, seven) (omega arith)

  -- eight bytes as one number are what std reads as 64 bits
  pub number-word : (i : ℕ) → number bs i 0 8 ≡ read_u64 bs i
  unfolding read_u64
  number-word i =
      let whole : (read_u32 bs (i + 4) * 2 ^ 32) % 2 ^ 64 ≡ read_u32 bs (i + 4) * 2 ^ 32 =
      omega (arith, half-below (i + 4)) in
      rw whole (halves i ∙ sym (or_shifted_r (read_u32 bs (i + 4)) 32 (read_u32 bs i) (half-below i)))
