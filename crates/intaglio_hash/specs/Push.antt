-- Several bytes of a write, as one number.
use Rattle.std.specs.Prelude.{ℕ, zero, suc, ◌+◌, ◌-◌, ◌*◌, ◌/◌, ◌%◌, ◌^◌, cond, List, nat_lt, get_or, bit_or}
use Rattle.std.specs.Hash.DefaultHasher.{wrapping_add, write_word}
use Rattle.std.specs.declared.hash.DefaultHasher.{DefaultHasher}

-- the n bytes from i + j on as a little-endian number
abbrev pub number : List ℕ → ℕ → ℕ → ℕ → ℕ
number bs i j zero = 0
number bs i j (suc n) = get_or bs (i + j) 0 + 256 * number bs i (suc j) n

-- s, with another tail and length
abbrev pub with_tail : DefaultHasher → ℕ → ℕ → DefaultHasher
with_tail s t n = record { v0 = s.v0; v1 = s.v1; v2 = s.v2; v3 = s.v3; tail = t; length = n }

-- the state after the n low bytes of x: they are appended to the tail, and if that makes eight bytes, they
-- are written as a word and the rest becomes the tail
unfoldable pub after_push : DefaultHasher → ℕ → ℕ → DefaultHasher
after_push s x n =
    let k = s.length % 8 in
    let m = bit_or s.tail ((x * 2 ^ (8 * k)) % 2 ^ 64) in
    cond (nat_lt (k + n) 8)
    (with_tail s m (wrapping_add s.length n))
    (with_tail (write_word s m) (x / 2 ^ 8 / 2 ^ (56 - 8 * k)) (wrapping_add s.length n))
