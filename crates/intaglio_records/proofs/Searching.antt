-- What a search gives, and what it has still to give.
use Rattle.intaglio_records.proofs.Names.{common_steps, bit_at, cases_eq, bit_at-lt, eqb_tells, Line, Entry, AreIn, IsLine, Overflow, newest, newest_length, no_line, AreBehind, Candidates, slots_with, overflow_slots, picked, bits_below, IsLeft}
use Rattle.std.proofs.Common.{◌≡◌, ◌≢◌, ℕ, zero, suc, ◌+◌, ◌<◌, ◌≤◌, ◌==◌, List, [], ◌∷◌, ◌++◌, length, get_or, cond, refl, subst, arith, inl, inr}

-- no bit is set
pub picked-none : (bits : ℕ) (slots : List ℕ) (n : ℕ) → ((i : ℕ) → i < n → bit_at bits i ≡ 0) →
    picked bits slots n ≡ []
picked-none bits slots zero none = refl
picked-none bits slots (suc n) none = grind (arith, common_steps, picked-none bits slots n, none n)

-- the lowest bit is set
pub picked-first : (bits fewer : ℕ) (slots : List ℕ) (p n : ℕ) → p < n → bit_at bits p ≡ 1 →
    ((i : ℕ) → i < p → bit_at bits i ≡ 0) → bit_at fewer p ≡ 0 →
    ((i : ℕ) → i < n → i ≢ p → bit_at fewer i ≡ bit_at bits i) →
    picked bits slots n ≡ get_or slots p 0 ∷ picked fewer slots n
picked-first bits fewer slots p zero lt here below gone others = absurd (omega (arith, lt))
picked-first bits fewer slots p (suc n) lt here below gone others =
    elim (cases_eq n p) [
      | inl same ↦ grind (arith, common_steps, picked-none)
      | inr other ↦ grind (arith, common_steps, others n (omega arith) other, picked-first bits fewer slots p n (omega (arith, lt, other)) here below gone (λ i l. others i (omega (arith, l))))
    ]

-- the bits of a tag pick the slots of the entries with it
pub picked-fresh : (bits tag : ℕ) (tags slots : List ℕ) (es : List Entry) → AreIn tags slots es →
    ((i : ℕ) → i < length es → bit_at bits i ≡ cond (get_or tags i 0 == tag) 1 0) →
    picked bits slots (length es) ≡ slots_with tag es
picked-fresh bits tag tags slots [] are is = refl
picked-fresh bits tag tags slots (e ∷ es) are is = grind (arith, common_steps, is (length es), picked-fresh bits tag tags slots es are.2)

-- only entries have a tag
pub bits-within : (line : Line) (es : List Entry) (next bits tag : ℕ) → IsLine line es next → 0 < tag →
    ((i : ℕ) → i < 16 → bit_at bits i ≡ cond (get_or line.tags i 0 == tag) 1 0) →
    ((i : ℕ) → 16 ≤ i → bit_at bits i ≡ 0) → (i : ℕ) → bit_at bits i ≡ 1 → i < length es
bits-within line es next bits tag is some low high i set = grind (arith, common_steps)

-- the next line of a chain
pub next-line : (base c tag n : ℕ) (lines : List Line) (os : List Overflow) → AreBehind base lines os →
    n ≡ newest base c os → 0 < n →
    (es : List Entry) × (older : List Overflow)
    × IsLine (get_or lines n no_line) es (newest base c older) × AreBehind base lines older
    × (overflow_slots c tag os ≡ slots_with tag es ++ overflow_slots c tag older) × (length older < length os)
    × (n ≡ base + length older) × (newest_length c os ≡ length es)
next-line base c tag n lines [] are is some = absurd (omega (arith, is, some))
next-line base c tag n lines (o ∷ os) are is some =
    elim (eqb_tells o.0 c) [
      | inl h ↦
          (let here : n ≡ base + length os = rw h.0 at is in
          let line = subst (λ k. IsLine (get_or lines n no_line) o.1 (newest base k os)) h.1 (rw here are.0) in
          rw h.0 (o.1, os, line, are.1, refl, omega arith, here, refl))
      | inr h ↦
          (let rest = next-line base c tag n lines os are.1 (rw h.0 at is) some in
          rw h.0 (rest.0, rest.1, rest.2, rest.3, rest.4, omega (arith, rest.5), rest.6, rest.7))
    ]

-- there is none
pub overflow-none : (base c tag : ℕ) (os : List Overflow) → 0 < base → newest base c os ≡ 0 →
    overflow_slots c tag os ≡ []
overflow-none base c tag [] some none = refl
overflow-none base c tag (o ∷ os) some none = grind (arith, common_steps, eqb_tells, overflow-none base c tag os some)

-- the next line of a search, if its number isn't 0, is one of the lines
pub next-inside : (search : Candidates) (left : List ℕ) (is : IsLeft search left) → search.next ≢ 0 →
    search.next < length search.lines.now
next-inside search left is more = grind (arith, common_steps, next-line is.base is.class search.tag search.next search.lines.now is.behind is.lines is.next, is.size)

-- at most n of n bits are set
pub bits-few : (bits n : ℕ) → bits_below bits n ≤ n
bits-few bits zero = omega arith
bits-few bits (suc n) = omega (arith, bits-few bits n, bit_at-lt bits n)

-- numbers with the same first n bits have as many of these set
bits-same : (bits fewer n : ℕ) → ((i : ℕ) → i < n → bit_at fewer i ≡ bit_at bits i) →
    bits_below fewer n ≡ bits_below bits n
bits-same bits fewer zero same = refl
bits-same bits fewer (suc n) same = grind (arith, common_steps, same n, bits-same bits fewer n)

-- fewer are set once one of them is cleared
pub bits-fewer : (bits fewer p n : ℕ) → p < n → bit_at bits p ≡ 1 → bit_at fewer p ≡ 0
    → ((i : ℕ) → i < n → i ≢ p → bit_at fewer i ≡ bit_at bits i) → bits_below fewer n < bits_below bits n
bits-fewer bits fewer p zero lt here gone others = absurd (omega (arith, lt))
bits-fewer bits fewer p (suc n) lt here gone others = grind (arith, common_steps, cases_eq n p, bits-same, others n, bits-fewer bits fewer p n)
