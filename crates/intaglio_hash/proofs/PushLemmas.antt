-- A push of several bytes as one number leaves the state that writing them one by one leaves.
use Rattle.std.proofs.Common.{◌≡◌, ℕ, zero, suc, ◌+◌, ◌-◌, ◌*◌, ◌/◌, ◌%◌, ◌^◌, ◌<◌, ◌≤◌, List, [], ◌∷◌, length, take, get_or, bit_and, bit_or, bit_xor, ap, sym, refl, ◌∙◌, arith, eq-eqb, ne_eqb}
use Rattle.std.specs.Hash.DefaultHasher.{wrapping_add, round, write_word, write_byte, with_byte}
use Rattle.std.specs.List.{fold}
use Rattle.std.proofs.lemmas.List.Sums.{fold_more}
use Rattle.std.proofs.lemmas.Nat.Bits.{bit_at_or, same_from_bits}
use Rattle.std.proofs.lemmas.Bool.{cases_lt, lt-ltb, le-ltb}
use mathlib.Core.Logic.{inl, inr}
use lib.Bits.{or_zero_l, or_zero_r, or_shifted_r}
use Rattle.std.specs.declared.hash.DefaultHasher.{DefaultHasher}
use Rattle.intaglio_hash.specs.Push.{number, with_tail, after_push}

-- ---- a word is written: before the round and after it

-- a state with a word mixed into v3, as it is before the round
abbrev pub before_round : ℕ → DefaultHasher → DefaultHasher
before_round m s =
    record { v0 = s.v0; v1 = s.v1; v2 = s.v2; v3 = bit_xor s.v3 m; tail = s.tail; length = s.length }

-- a state with a word mixed into v0, as it is after the round
abbrev pub after_round : ℕ → DefaultHasher → DefaultHasher
after_round m s =
    record { v0 = bit_xor s.v0 m; v1 = s.v1; v2 = s.v2; v3 = s.v3; tail = s.tail; length = s.length }

-- ---- the steps of `finish`

-- the last word that `finish` writes: the tail, with the lowest byte of the length as the highest byte
abbrev pub last_word : DefaultHasher → ℕ
last_word s = bit_or ((bit_and s.length 255 * 2 ^ 56) % 2 ^ 64) s.tail

-- a state with 255 mixed into v2, as it is before the last rounds of `finish`
abbrev pub with_end_mark : DefaultHasher → DefaultHasher
with_end_mark s =
    record { v0 = s.v0; v1 = s.v1; v2 = bit_xor s.v2 255; v3 = s.v3; tail = s.tail; length = s.length }

-- the exclusive or of a state's four words
abbrev pub xor_of_words : DefaultHasher → ℕ
xor_of_words s = bit_xor (bit_xor (bit_xor s.v0 s.v1) s.v2) s.v3

-- ---- bits

-- the bitwise or is associative
pub or-assoc : (a b c : ℕ) → bit_or (bit_or a b) c ≡ bit_or a (bit_or b c)
or-assoc a b c = same_from_bits _ _ (λ i.
    let l = bit_at_or (bit_or a b) c i in
    let l2 = bit_at_or a b i in
    let r = bit_at_or a (bit_or b c) i in
    let r2 = bit_at_or b c i in
    omega (arith, l, l2, r, r2))

-- a byte and a number above it, both shifted by k bytes
bit_or-byte : (k b n : ℕ) → k < 7 → b < 256 →
    bit_or ((b * 2 ^ (8 * k)) % 2 ^ 64) ((n * 2 ^ (8 * suc k)) % 2 ^ 64)
    ≡ ((b + 256 * n) * 2 ^ (8 * k)) % 2 ^ 64
bit_or-byte zero b n h p =
    let low : (b * 2 ^ 0) % 2 ^ 64 ≡ b = omega arith in
    let high : (n * 2 ^ 8) % 2 ^ 64 ≡ n % 2 ^ 56 * 2 ^ 8 = omega arith in
    let r = or_shifted_r (n % 2 ^ 56) 8 b (omega arith) in
    rw (low, high, r) (omega arith)
bit_or-byte (suc zero) b n h p =
    let low : (b * 2 ^ 8) % 2 ^ 64 ≡ b * 2 ^ 8 = omega arith in
    let high : (n * 2 ^ 16) % 2 ^ 64 ≡ n % 2 ^ 48 * 2 ^ 16 = omega arith in
    let r = or_shifted_r (n % 2 ^ 48) 16 (b * 2 ^ 8) (omega arith) in
    rw (low, high, r) (omega arith)
bit_or-byte (suc (suc zero)) b n h p =
    let low : (b * 2 ^ 16) % 2 ^ 64 ≡ b * 2 ^ 16 = omega arith in
    let high : (n * 2 ^ 24) % 2 ^ 64 ≡ n % 2 ^ 40 * 2 ^ 24 = omega arith in
    let r = or_shifted_r (n % 2 ^ 40) 24 (b * 2 ^ 16) (omega arith) in
    rw (low, high, r) (omega arith)
bit_or-byte (suc (suc (suc zero))) b n h p =
    let low : (b * 2 ^ 24) % 2 ^ 64 ≡ b * 2 ^ 24 = omega arith in
    let high : (n * 2 ^ 32) % 2 ^ 64 ≡ n % 2 ^ 32 * 2 ^ 32 = omega arith in
    let r = or_shifted_r (n % 2 ^ 32) 32 (b * 2 ^ 24) (omega arith) in
    rw (low, high, r) (omega arith)
bit_or-byte (suc (suc (suc (suc zero)))) b n h p =
    let low : (b * 2 ^ 32) % 2 ^ 64 ≡ b * 2 ^ 32 = omega arith in
    let high : (n * 2 ^ 40) % 2 ^ 64 ≡ n % 2 ^ 24 * 2 ^ 40 = omega arith in
    let r = or_shifted_r (n % 2 ^ 24) 40 (b * 2 ^ 32) (omega arith) in
    rw (low, high, r) (omega arith)
bit_or-byte (suc (suc (suc (suc (suc zero))))) b n h p =
    let low : (b * 2 ^ 40) % 2 ^ 64 ≡ b * 2 ^ 40 = omega arith in
    let high : (n * 2 ^ 48) % 2 ^ 64 ≡ n % 2 ^ 16 * 2 ^ 48 = omega arith in
    let r = or_shifted_r (n % 2 ^ 16) 48 (b * 2 ^ 40) (omega arith) in
    rw (low, high, r) (omega arith)
bit_or-byte (suc (suc (suc (suc (suc (suc zero)))))) b n h p =
    let low : (b * 2 ^ 48) % 2 ^ 64 ≡ b * 2 ^ 48 = omega arith in
    let high : (n * 2 ^ 56) % 2 ^ 64 ≡ n % 2 ^ 8 * 2 ^ 56 = omega arith in
    let r = or_shifted_r (n % 2 ^ 8) 56 (b * 2 ^ 48) (omega arith) in
    rw (low, high, r) (omega arith)
bit_or-byte (suc (suc (suc (suc (suc (suc (suc k))))))) b n h p = absurd (omega arith)

-- the same, over a tail
bit_or-with_byte : (t k b n : ℕ) → k < 7 → b < 256 → bit_or (with_byte t k b) ((n * 2 ^ (8 * suc k)) % 2 ^ 64)
    ≡ bit_or t (((b + 256 * n) * 2 ^ (8 * k)) % 2 ^ 64)
bit_or-with_byte t k b n h p = or-assoc t _ _ ∙ ap (bit_or t) (bit_or-byte k b n h p)

-- the part of a number above the word that it fills, without its lowest byte and with it
rest-above-word : (k b n : ℕ) → k < 7 → b < 256 →
    n / 256 / 2 ^ (56 - 8 * suc k) ≡ (b + 256 * n) / 256 / 2 ^ (56 - 8 * k)
rest-above-word zero b n h p = omega arith
rest-above-word (suc zero) b n h p = omega arith
rest-above-word (suc (suc zero)) b n h p = omega arith
rest-above-word (suc (suc (suc zero))) b n h p = omega arith
rest-above-word (suc (suc (suc (suc zero)))) b n h p = omega arith
rest-above-word (suc (suc (suc (suc (suc zero))))) b n h p = omega arith
rest-above-word (suc (suc (suc (suc (suc (suc zero)))))) b n h p = omega arith
rest-above-word (suc (suc (suc (suc (suc (suc (suc k))))))) b n h p = absurd (omega arith)

-- ---- a push, by its two cases

-- if the bytes of a push and those in the tail are fewer than eight, the push adds them to the tail
pub after_push-within : (s : DefaultHasher) (x n : ℕ) {m : ℕ} → m ≡ s.length % 8 + n → m < 8
    → after_push s x n ≡ with_tail s (bit_or s.tail ((x * 2 ^ (8 * (s.length % 8))) % 2 ^ 64))
    (wrapping_add s.length n)
unfolding after_push
after_push-within s x n e h = rw (lt-ltb (s.length % 8 + n) 8 (omega (arith, e, h))) refl

-- if the bytes of a push and those in the tail are eight or more, a word is written and the rest is the tail
pub after_push-over : (s : DefaultHasher) (x n : ℕ) {m : ℕ} → m ≡ s.length % 8 + n → 8 ≤ m
    → after_push s x n ≡ with_tail (write_word s (bit_or s.tail ((x * 2 ^ (8 * (s.length % 8))) % 2 ^ 64)))
    (x / 2 ^ 8 / 2 ^ (56 - 8 * (s.length % 8))) (wrapping_add s.length n)
unfolding after_push
after_push-over s x n e h = rw (le-ltb (s.length % 8 + n) 8 (omega (arith, e, h))) refl

-- ---- one byte, by the same two cases

module _ (s : DefaultHasher) (b : ℕ) (fits : s.length < 2 ^ 64) where
  write_byte-within : s.length % 8 < 7 →
      write_byte s b ≡ with_tail s (with_byte s.tail (s.length % 8) b) (wrapping_add s.length 1)
  unfolding write_byte
  write_byte-within p =
      let more : wrapping_add s.length 1 % 8 ≡ 0 → ⊥ = omega arith in
      rw (ne_eqb (wrapping_add s.length 1 % 8) 0 more) refl

  write_byte-over : s.length % 8 ≡ 7 →
      write_byte s b ≡ with_tail (write_word s (with_byte s.tail (s.length % 8) b)) 0
      (wrapping_add s.length 1)
  unfolding write_byte write_word round
  write_byte-over p =
      let whole : wrapping_add s.length 1 % 8 ≡ 0 = omega arith in
      rw (eq-eqb (wrapping_add s.length 1 % 8) 0 whole) refl

-- ---- several bytes

module _ (bs : List ℕ) (i : ℕ) (byte : (k : ℕ) → get_or bs k 0 < 256) where
  -- the n bytes from i + j on, one by one
  pub write_bytes : ℕ → ℕ → DefaultHasher → DefaultHasher
  write_bytes j zero s = s
  write_bytes j (suc n) s = write_bytes (suc j) n (write_byte s (get_or bs (i + j) 0))

  -- all of them stay in the tail
  write_bytes-within : (j n : ℕ) (s : DefaultHasher) → s.length < 2 ^ 64 → s.length % 8 + n < 8
      → write_bytes j n s
      ≡ with_tail s (bit_or s.tail ((number bs i j n * 2 ^ (8 * (s.length % 8))) % 2 ^ 64))
      (wrapping_add s.length n)
  unfolding write_bytes
  write_bytes-within j zero s fits p =
      let none : (0 * 2 ^ (8 * (s.length % 8))) % 2 ^ 64 ≡ 0 =
      rw (native.Mathlib.Nat.zero-mul (2 ^ (8 * (s.length % 8)))) refl in
      let same : wrapping_add s.length 0 ≡ s.length = omega arith in
      rw (none, or_zero_r s.tail, same) refl
  write_bytes-within j (suc n) s fits p =
      let b = get_or bs (i + j) 0 in
      let k = s.length % 8 in
      let t = with_tail s (with_byte s.tail k b) (wrapping_add s.length 1) in
      let place : wrapping_add s.length 1 % 8 ≡ suc k = omega arith in
      let count : wrapping_add (wrapping_add s.length 1) n ≡ wrapping_add s.length (suc n) = omega arith in
      let tails = bit_or-with_byte s.tail k b (number bs i (suc j) n) (omega arith) (byte (i + j)) in
      ap (write_bytes (suc j) n) (write_byte-within s b fits (omega arith))
      ∙ write_bytes-within (suc j) n t (omega arith) (omega arith)
      ∙ (λ x. with_tail s
      (bit_or (with_byte s.tail k b) ((number bs i (suc j) n * 2 ^ (8 * place x)) % 2 ^ 64)) (count x))
      ∙ ap (λ x. with_tail s x (wrapping_add s.length (suc n))) tails

  -- a number of at most seven bytes
  number-below : (j n : ℕ) → n ≤ 7 → number bs i j n < 2 ^ 56
  number-below j zero p = omega arith
  number-below j (suc zero) p = omega (arith, byte (i + j))
  number-below j (suc (suc zero)) p = omega (arith, byte (i + j), byte (i + suc j))
  number-below j (suc (suc (suc zero))) p =
      omega (arith, byte (i + j), byte (i + suc j), byte (i + suc (suc j)))
  number-below j (suc (suc (suc (suc zero)))) p =
      omega (arith, byte (i + j), byte (i + suc j), byte (i + suc (suc j)), byte (i + suc (suc (suc j))))
  number-below j (suc (suc (suc (suc (suc zero))))) p =
      omega (
        arith,
        byte (i + j),
        byte (i + suc j),
        byte (i + suc (suc j)),
        byte (i + suc (suc (suc j))),
        byte (i + suc (suc (suc (suc j)))),
      )
  number-below j (suc (suc (suc (suc (suc (suc zero)))))) p =
      omega (
        arith,
        byte (i + j),
        byte (i + suc j),
        byte (i + suc (suc j)),
        byte (i + suc (suc (suc j))),
        byte (i + suc (suc (suc (suc j)))),
        byte (i + suc (suc (suc (suc (suc j))))),
      )
  number-below j (suc (suc (suc (suc (suc (suc (suc zero))))))) p =
      omega (
        arith,
        byte (i + j),
        byte (i + suc j),
        byte (i + suc (suc j)),
        byte (i + suc (suc (suc j))),
        byte (i + suc (suc (suc (suc j)))),
        byte (i + suc (suc (suc (suc (suc j))))),
        byte (i + suc (suc (suc (suc (suc (suc j)))))),
      )
  number-below j (suc (suc (suc (suc (suc (suc (suc (suc n)))))))) p = absurd (omega arith)

  -- the first of them fills the word
  write_bytes-over-first : (j n : ℕ) (s : DefaultHasher) → s.length < 2 ^ 64 → s.length % 8 ≡ 7 → n ≤ 7
      → write_bytes (suc j) n (write_byte s (get_or bs (i + j) 0))
      ≡ with_tail (write_word s (bit_or s.tail ((number bs i j (suc n) * 2 ^ (8 * (s.length % 8))) % 2 ^ 64)))
      (number bs i j (suc n) / 2 ^ 8 / 2 ^ (56 - 8 * (s.length % 8))) (wrapping_add s.length (suc n))
  write_bytes-over-first j n s fits last p =
      let b = get_or bs (i + j) 0 in
      let N = number bs i (suc j) n in
      let w = write_word s (with_byte s.tail (s.length % 8) b) in
      let u = with_tail w 0 (wrapping_add s.length 1) in
      let place : wrapping_add s.length 1 % 8 ≡ 0 = omega arith in
      let count : wrapping_add (wrapping_add s.length 1) n ≡ wrapping_add s.length (suc n) = omega arith in
      let whole : (b * 2 ^ 56) % 2 ^ 64 ≡ ((b + 256 * N) * 2 ^ 56) % 2 ^ 64 = omega (arith, byte (i + j)) in
      let here : (b * 2 ^ (8 * (s.length % 8))) % 2 ^ 64 ≡ ((b + 256 * N) * 2 ^ (8 * (s.length % 8)))
      % 2 ^ 64 = rw last whole in
      let left : (N * 2 ^ 0) % 2 ^ 64 ≡ (b + 256 * N) / 2 ^ 8 / 2 ^ 0 =
      omega (arith, byte (i + j), number-below (suc j) n p) in
      let left_here : (N * 2 ^ (8 * 0)) % 2 ^ 64 ≡ (b + 256 * N) / 2 ^ 8 / 2 ^ (56 - 8 * (s.length % 8)) =
      rw last left in
      ap (write_bytes (suc j) n) (write_byte-over s b fits last)
      ∙ write_bytes-within (suc j) n u (omega arith) (omega arith)
      ∙ (λ x. with_tail w (or_zero_l ((N * 2 ^ (8 * place x)) % 2 ^ 64) x) (count x))
      ∙ (λ x. with_tail (write_word s (bit_or s.tail (here x))) (left_here x) (wrapping_add s.length (suc n)))

  -- one of them fills the word
  write_bytes-over : (j n : ℕ) (s : DefaultHasher) → s.length < 2 ^ 64 → n ≤ 8 → 8 ≤ s.length % 8 + n
      → write_bytes j n s
      ≡ with_tail (write_word s (bit_or s.tail ((number bs i j n * 2 ^ (8 * (s.length % 8))) % 2 ^ 64)))
      (number bs i j n / 2 ^ 8 / 2 ^ (56 - 8 * (s.length % 8))) (wrapping_add s.length n)
  unfolding write_bytes write_word round
  write_bytes-over j zero s fits p q = absurd (omega arith)
  write_bytes-over j (suc n) s fits p q =
      let b = get_or bs (i + j) 0 in
      let k = s.length % 8 in
      let N = number bs i (suc j) n in
      let t = with_tail s (with_byte s.tail k b) (wrapping_add s.length 1) in
      elim (cases_lt k 7) [
        | inl h ↦
            let place : wrapping_add s.length 1 % 8 ≡ suc k = omega arith in
            let count : wrapping_add (wrapping_add s.length 1) n ≡ wrapping_add s.length (suc n) =
            omega arith in
            let tails = bit_or-with_byte s.tail k b N h (byte (i + j)) in
            let rest = rest-above-word k b N h (byte (i + j)) in
            ap (write_bytes (suc j) n) (write_byte-within s b fits h)
            ∙ write_bytes-over (suc j) n t (omega arith) (omega arith) (omega arith)
            ∙ (λ x. with_tail
            (write_word t (bit_or (with_byte s.tail k b) ((N * 2 ^ (8 * place x)) % 2 ^ 64)))
            (N / 2 ^ 8 / 2 ^ (56 - 8 * place x)) (count x))
            ∙ (λ x. with_tail (write_word s (tails x)) (rest x) (wrapping_add s.length (suc n)))
        | inr h ↦ write_bytes-over-first j n s fits (omega arith) (omega arith)
      ]

  -- a push writes the bytes of its number
  pub after_push-write_bytes : (j n : ℕ) (s : DefaultHasher) → s.length < 2 ^ 64 → n ≤ 8 →
      after_push s (number bs i j n) n ≡ write_bytes j n s
  after_push-write_bytes j n s fits p =
      elim (cases_lt (s.length % 8 + n) 8) [
        | inl h ↦ after_push-within s (number bs i j n) n refl h ∙ sym (write_bytes-within j n s fits h)
        | inr h ↦ after_push-over s (number bs i j n) n refl h ∙ sym (write_bytes-over j n s fits p h)
      ]

  -- written one by one after the i + j bytes before them
  pub write_bytes-fold : (s₀ : DefaultHasher) (j n : ℕ) → i + j + n ≤ length bs →
      write_bytes j n (fold write_byte s₀ (take (i + j) bs)) ≡ fold write_byte s₀ (take (i + j + n) bs)
  unfolding write_bytes
  write_bytes-fold s₀ j zero p =
      let same : i + j ≡ i + j + 0 = omega arith in
      ap (λ k. fold write_byte s₀ (take k bs)) same
  write_bytes-fold s₀ j (suc n) p =
      let next : i + j + 1 ≡ i + suc j = omega arith in
      let end : i + suc j + n ≡ i + j + suc n = omega arith in
      ap (write_bytes (suc j) n) (sym (fold_more write_byte s₀ bs (i + j) 0 (omega arith))
      ∙ ap (λ k. fold write_byte s₀ (take k bs)) next)
      ∙ write_bytes-fold s₀ (suc j) n (omega arith)
      ∙ ap (λ k. fold write_byte s₀ (take k bs)) end

-- a push of n bytes goes on from the first i bytes to the first i + n
pub after_push-fold : (bs : List ℕ) (i n : ℕ) (byte : (k : ℕ) → get_or bs k 0 < 256) (s₀ s : DefaultHasher)
    → s ≡ fold write_byte s₀ (take i bs) → s.length < 2 ^ 64 → n ≤ 8 → i + n ≤ length bs →
    after_push s (number bs i 0 n) n ≡ fold write_byte s₀ (take (i + n) bs)
after_push-fold bs i n byte s₀ s so_far fits p q =
    let here : i ≡ i + 0 = omega arith in
    let end : i + 0 + n ≡ i + n = omega arith in
    after_push-write_bytes bs i byte 0 n s fits p
    ∙ ap (write_bytes bs i byte 0 n) (so_far ∙ ap (λ k. fold write_byte s₀ (take k bs)) here)
    ∙ write_bytes-fold bs i byte s₀ 0 n (omega arith)
    ∙ ap (λ k. fold write_byte s₀ (take k bs)) end

-- each byte of a list of one byte is one
pub one-byte : (b : ℕ) → b < 256 → (k : ℕ) → get_or (b ∷ []) k 0 < 256
one-byte b h zero = h
one-byte b h (suc k) = omega arith
