-- Words that hold a hash with a symbol.
use Rattle.intaglio_index.proofs.Names.{common_steps, IsPowerOfTwo, bit_xor, cases_lt, pow_pos, pow_below, xor_shr, xor_mod, div-add-mod', div-mul-add, mod-mul-add, div_below, mul-add-lt, le-div, pow-add, mul-le-mul_right, div-eq_of_lt, div-lt_iff_lt-mul, IsWord}
use Rattle.std.proofs.Common.{◌≡◌, ◌≢◌, ◌↔◌, ℕ, ◌+◌, ◌-◌, ◌*◌, ◌/◌, ◌%◌, ◌^◌, ◌<◌, ◌≤◌, sym, ap, ◌∙◌, arith, inl, inr}
use Rattle.std.specs.Int.Bits.{xor_self}
use Rattle.intaglio_content.proofs.SameLemmas.{xor-none}

-- what is below the size is left of a number that has the same high bits
agrees-at : (k a b : ℕ) → bit_xor a b < 2 ^ k ↔ (a / 2 ^ k ≡ b / 2 ^ k)
agrees-at k a b =
    let some : 0 < 2 ^ k = pow_pos k in
    let high : bit_xor a b / 2 ^ k ≡ bit_xor (a / 2 ^ k) (b / 2 ^ k) = xor_shr a b k in
    let none : a / 2 ^ k ≡ b / 2 ^ k → bit_xor a b / 2 ^ k ≡ 0 =
    λ same. high ∙ ap (λ n. bit_xor n (b / 2 ^ k)) same ∙ xor_self (b / 2 ^ k) in (
      λ below. xor-none (a / 2 ^ k) (b / 2 ^ k) (sym high ∙ div-eq_of_lt below),
      λ same. (let less = (div-lt_iff_lt-mul {x = bit_xor a b} {y = 1} some).0 (omega (arith, none same)) in
          omega (arith, less)),
    )

-- the xor of two numbers is at most a mask of low bits exactly if their bits above the mask are the same
pub agrees-is : (mask a b : ℕ) → IsPowerOfTwo (mask + 1) → bit_xor a b ≤ mask ↔
    (a / (mask + 1) ≡ b / (mask + 1))
agrees-is mask a b power = grind (arith, common_steps, agrees-at)

-- what one of two numbers differs in from their difference is the other
xor-undone : (a b : ℕ) → bit_xor (bit_xor a b) b ≡ a
xor-undone a b = grind (arith, common_steps)

-- a number below a size is its own remainder
below-itself : (n size : ℕ) → 0 < size → n < size → n % size ≡ n
below-itself n size some below = grind (arith, common_steps)

-- where the bits from k on are the same, the xor with the low k bits of one number gives those of the other
low-at : (k a b : ℕ) → a / 2 ^ k ≡ b / 2 ^ k → bit_xor (bit_xor a b) (b % 2 ^ k) ≡ a % 2 ^ k
low-at k a b same = grind (arith, common_steps, agrees-at, below-itself, pow_pos, xor_mod, xor-undone)

-- the low bits of a number by those of another with the same high bits
pub low-beside : (mask a b low : ℕ) → IsPowerOfTwo (mask + 1) → a / (mask + 1) ≡ b / (mask + 1) →
    low ≡ b % (mask + 1) → bit_xor (bit_xor a b) low ≡ a % (mask + 1)
low-beside mask a b low power same is = grind (arith, common_steps, low-at)

module _ (size : ℕ) (some : 0 < size) where
  -- of two numbers in different blocks the one in the lower block is less
  pub block-below : (a b : ℕ) → a / size < b / size → a < b
  block-below a b l =
      let next : a / size + 1 ≤ b / size = omega arith in
      let scaled : (a / size + 1) * size ≤ b / size * size = mul-le-mul_right size next in
      omega (arith, scaled, div-add-mod' a size, div-add-mod' b size)

  -- and the block of the less is the lower
  pub below-block : (a b : ℕ) → a < b → a / size ≢ b / size → a / size < b / size
  below-block a b l differ = elim (cases_lt (b / size) (a / size)) [
    | inl above ↦ absurd (let back : b < a = block-below b a above in omega arith)
    | inr at_most ↦ omega (arith, differ)
  ]

  -- the parts of a word
  pub word-is : (h s : ℕ) → s < size → IsWord size (s, h) (h / size * size + s)
  word-is h s l = (div-mul-add (h / size) size s l, mod-mul-add (h / size) size s l)

  -- a number is told by its high bits and its low ones
  pub same-number : (a b : ℕ) → a % size ≡ b % size → a / size ≡ b / size → a ≡ b
  same-number a b low high =
      sym (div-add-mod' a size) ∙ ap (λ n. n * size + a % size) high ∙ ap (λ n. b / size * size + n) low
      ∙ div-add-mod' b size

  -- a word is told by its entry
  pub word-same : (e : ℕ × ℕ) (a b : ℕ) → IsWord size e a → IsWord size e b → a ≡ b
  word-same e a b p q = same-number a b (p.1 ∙ sym q.1) (p.0 ∙ sym q.0)

  -- where the low bits are the same, the high bits tell the order
  pub high-below : (a b word : ℕ) → a % size ≡ b % size → word / size ≡ a / size →
      b / size * size ≤ word → b ≤ a
  high-below a b word low same l =
      let blocks : b / size ≤ word / size = le-div (b / size) word size some l in
      let scaled : b / size * size ≤ a / size * size =
      mul-le-mul_right size (let q : b / size ≤ a / size = omega arith in q) in
      omega (arith, scaled, div-add-mod' a size, div-add-mod' b size)

  -- and a word below the other's high bits is that of the lesser
  pub high-above : (a b word : ℕ) → word / size ≡ a / size → word < b / size * size → a < b
  high-above a b word same l =
      let blocks : word / size < b / size = div_below word size (b / size) some l in
      block-below a b (omega arith)

-- a word of a hash of 64 bits has 64 bits
pub word-fits : (h s size : ℕ) → IsPowerOfTwo size → size ≤ 2 ^ 64 → h < 2 ^ 64 → s < size →
    h / size * size + s < 2 ^ 64
word-fits h s size power within fits below =
    let k : ℕ = power.0 in
    let low : k ≤ 64 = grind (arith, pow_below 64 k, power.1) in
    let sum : 64 ≡ (64 - k) + k = omega arith in
    let whole : 2 ^ 64 ≡ 2 ^ (64 - k) * size =
    ap (λ n. 2 ^ n) sum ∙ pow-add 2 (64 - k) k ∙ ap (λ n. 2 ^ (64 - k) * n) (sym power.1) in
    let some : 0 < size = omega arith in
    let block : h / size < 2 ^ (64 - k) = div_below h size (2 ^ (64 - k)) some (omega (arith, whole)) in
    omega (arith, whole, mul-add-lt (h / size) size s (2 ^ (64 - k)) block below)
