-- The strings of a block, and where they stand.
use Rattle.intaglio_frozen.proofs.Names.{common_steps, numbers_at, count, ends_at, text_at, ends, kind, own0, own1, pilots_at, IsBlock, AreTexts, strings_from, AreEnds, slice_get_within, AreCharEnds, concat, w32, to_le_bytes, drop_all, drop-drop, get_or-drop, IsIdOf, IsIdOfStrings, end_behind, end_bytes, HasId, is_text_number, ends_section, text_section, DictionaryId}
use Rattle.std.proofs.Common.{◌≡◌, ℕ, zero, suc, ◌+◌, ◌-◌, ◌*◌, ◌/◌, ◌^◌, ◌<◌, ◌≤◌, List, ◌∷◌, length, drop, get_or, slice_get, slice_range, option_copied, Option, None, Some, IfSome, IsSome, Bor, refl, sym, ap, ◌∙◌, arith, [], mul_comm, subst, IsUtf8, IsCharBoundary, ◌%◌, Bool, ◌++◌, take, length-drop, take-add}
use Rattle.std.proofs.lemmas.Nat.{row_fits}
use Rattle.std.specs.Slice.{IsGetRangeResult}
use Rattle.intaglio_hash.specs.Push.{number}
use Rattle.intaglio_hash.specs.Numbers.{u32_at}
use Rattle.intaglio_frozen.specs.Layout.{strings}
use Rattle.std.proofs.lemmas.Str.{IsUtf8-between, IsCharBoundary-start}
use Rattle.std.proofs.lemmas.List.Edits.{length-between}
use Rattle.std.proofs.lemmas.List.Folds.{drop_split}

-- where the first string begins is within the bytes
pub ends_within : (at all : ℕ) (es : List ℕ) → AreEnds at all es → at ≤ all
ends_within at all [] h = omega (arith, h)
ends_within at all (e ∷ es) h = omega (arith, h.0, ends_within e all es h.1)

-- there are as many strings as ends
pub from-length : (at : ℕ) (bytes es : List ℕ) → length (strings_from at bytes es) ≡ length es
from-length at bytes [] = refl
from-length at bytes (e ∷ es) = ap suc (from-length e bytes es)

-- where a string begins and ends
pub end-bounds : (at all : ℕ) (es : List ℕ) (i : ℕ) → AreEnds at all es → i < length es →
    (get_or (at ∷ es) i 0 ≤ get_or es i 0) × (get_or es i 0 ≤ all)
end-bounds at all [] i h l = absurd (omega arith)
end-bounds at all (e ∷ es) zero h l = (h.0, ends_within e all es h.1)
end-bounds at all (e ∷ es) (suc i) h l = end-bounds e all es i h.1 (omega arith)

-- the string at i lies between the end before it, or the beginning if i is 0, and its own end
pub strings-at : (at : ℕ) (bytes es : List ℕ) (i : ℕ) → i < length es →
    slice_get (strings_from at bytes es) i ≡ Some (slice_range bytes (get_or (at ∷ es) i 0) (get_or es i 0))
strings-at at bytes [] i l = absurd (omega arith)
strings-at at bytes (e ∷ es) zero l = refl
strings-at at bytes (e ∷ es) (suc i) l = strings-at e bytes es i (omega arith)

-- n numbers that are read from bytes are a list of length n
pub numbers_length : (bs : List ℕ) (at n : ℕ) → length (numbers_at bs at n) ≡ n
numbers_length bs at zero = refl
numbers_length bs at (suc n) = ap suc (numbers_length bs (at + 4) n)

-- the i-th of n numbers of four bytes is 4 * i bytes behind the first
pub numbers-get : (bs : List ℕ) (at n i : ℕ) → i < n →
    get_or (numbers_at bs at n) i 0 ≡ u32_at bs (at + 4 * i)
numbers-get bs at zero i l = absurd (omega arith)
numbers-get bs at (suc n) zero l = ap (u32_at bs) (omega arith)
numbers-get bs at (suc n) (suc i) l = numbers-get bs (at + 4) n i (omega arith) ∙ ap (u32_at bs) (omega arith)

-- there are as many strings as the header says
pub strings_length : (bs : List ℕ) → length (strings bs) ≡ count bs
unfolding strings
strings_length bs = from-length 0 (drop (text_at bs) bs) (ends bs) ∙ numbers_length bs (ends_at bs) (count bs)

-- a number in the bytes from a position on
number-in : (bs : List ℕ) (a k j n : ℕ) → number (drop a bs) k j n ≡ number bs (a + k) j n
number-in bs a k j zero = refl
number-in bs a k j (suc n) = grind (arith, common_steps, number-in bs a k (suc j) n)

-- the number of four bytes at k in the bytes from a on is the one at a + k in all bytes
pub u32-in : (bs : List ℕ) (a k at : ℕ) → at ≡ a + k → u32_at (drop a bs) k ≡ u32_at bs at
unfolding u32_at
u32-in bs a k at e = number-in bs a k 0 4 ∙ ap (λ p. number bs p 0 4) (sym e)

-- where a text ends
pub end_is : (bs : List ℕ) (i : ℕ) → i < count bs → get_or (ends bs) i 0 ≡ u32_at bs (ends_at bs + 4 * i)
end_is bs i l = numbers-get bs (ends_at bs) (count bs) i l

-- where it begins
pub start-is-end : (bs : List ℕ) (i : ℕ) → 0 < i → get_or (0 ∷ ends bs) i 0 ≡ get_or (ends bs) (i - 1) 0
start-is-end bs zero p = absurd (omega arith)
start-is-end bs (suc i) p = ap (λ k. get_or (ends bs) k 0) (omega arith)

-- the string at i is the part of the text from the end before it, or from 0, to its own end
pub strings-get : (bs : List ℕ) (i : ℕ) → i < count bs →
    slice_get (strings bs) i
    ≡ Some (slice_range (drop (text_at bs) bs) (get_or (0 ∷ ends bs) i 0) (get_or (ends bs) i 0))
unfolding strings
strings-get bs i l =
    strings-at 0 (drop (text_at bs) bs) (ends bs) i (omega (arith, numbers_length bs (ends_at bs) (count bs)))

-- a string, by where it begins and ends
pub string_in : (bs t : List ℕ) (i start end : ℕ) → i < count bs → start ≡ get_or (0 ∷ ends bs) i 0 →
    end ≡ get_or (ends bs) i 0 →
    t ≡ slice_range (drop (text_at bs) bs) start end → slice_get (strings bs) i ≡ Some t
string_in bs t i start end l es ee et = rw (et, es, ee) (strings-get bs i l)

-- if the strings fill the text, none begins behind its end, and each end is within the text
pub ends_order : (bs : List ℕ) (i : ℕ) → IsBlock bs → i < count bs →
    (get_or (0 ∷ ends bs) i 0 ≤ get_or (ends bs) i 0) × (get_or (ends bs) i 0 ≤ length (drop (text_at bs) bs))
ends_order bs i b l =
    grind (arith, common_steps, end-bounds 0 (length bs - text_at bs) (ends bs) i b.ends, numbers_length bs (ends_at bs) (count bs))

-- what lies between the ends of a string
pub part-found : (bs : List ℕ) (i start end : ℕ) (r : Option (Bor (List ℕ))) → i < count bs →
    start ≡ get_or (0 ∷ ends bs) i 0 → end ≡ get_or (ends bs) i 0 →
    IsGetRangeResult (drop (text_at bs) bs) start end r →
    IfSome r (λ s. slice_get (strings bs) i ≡ Some s.now)
part-found bs i start end None l es ee p = tt
part-found bs i start end (Some s) l es ee p = string_in bs s.now i start end l es ee p.0.2

-- if the strings fill the text, its range from where a string begins to where it ends is that string
pub part_whole : (bs : List ℕ) (i start end : ℕ) (r : Option (Bor (List ℕ))) → IsBlock bs → i < count bs →
    start ≡ get_or (0 ∷ ends bs) i 0 → end ≡ get_or (ends bs) i 0 →
    IsGetRangeResult (drop (text_at bs) bs) start end r → option_copied r ≡ slice_get (strings bs) i
part_whole bs i start end None block l es ee p =
    let order = ends_order bs i block l in
    let some : IsSome {T = Bor (List ℕ)} None = p.1 (rw (es, ee) order.0, rw ee order.1) in
    cc
part_whole bs i start end (Some s) block l es ee p = sym (string_in bs s.now i start end l es ee p.0.2)

-- a product is less if one factor is less and the other isn't 0
product : (a n m : ℕ) → 0 < n → a < m → a * n < n * m
product a n m p l = omega (arith, row_fits a n m n l (omega arith), mul_comm n m)

-- of n numbers of four bytes, those from the i-th on are the i-th and those behind it
pub numbers_step : (bs : List ℕ) (at n i : ℕ) → i < n →
    numbers_at bs (at + 4 * i) (n - i) ≡ u32_at bs (at + 4 * i) ∷ numbers_at bs (at + 4 * (i + 1))
    (n - (i + 1))
numbers_step bs at n i l = grind (arith, common_steps)

-- if n numbers in bytes are the ends of strings, there are n strings
pub length_left : (start : ℕ) (text bs : List ℕ) (at n : ℕ) →
    length (strings_from start text (numbers_at bs at n)) ≡ n
length_left start text bs at n = from-length start text (numbers_at bs at n) ∙ numbers_length bs at n

-- the next number, and the others
pub next_number : (bs : List ℕ) (at n : ℕ) → 0 < n →
    numbers_at bs at n ≡ u32_at bs at ∷ numbers_at bs (at + 4) (n - 1)
next_number bs at zero l = absurd (omega arith)
next_number bs at (suc n) l = ap (λ k. u32_at bs at ∷ numbers_at bs (at + 4) k) (omega arith)

-- Strings of a text.

-- each string begins where a character does
char-start : (text es : List ℕ) (i : ℕ) → IsUtf8 text → AreCharEnds text es → i ≤ length es →
    IsCharBoundary text (get_or (0 ∷ es) i 0)
char-start text es zero u all l = IsCharBoundary-start text u
char-start text es (suc i) u all l = all i (omega arith)

-- the strings of a block are UTF-8 if the whole text is, and a character ends at each end of a string
pub texts-between : (bs : List ℕ) → IsBlock bs → IsUtf8 (drop (text_at bs) bs) →
    AreCharEnds (drop (text_at bs) bs) (ends bs) → AreTexts (strings bs)
texts-between bs block u all = λ i w at.
    let text = drop (text_at bs) bs in
    let below : i < count bs = omega (arith, slice_get_within (strings bs) i w at, strings_length bs) in
    let within : i < length (ends bs) = omega (arith, below, numbers_length bs (ends_at bs) (count bs)) in
    let start = get_or (0 ∷ ends bs) i 0 in
    let end = get_or (ends bs) i 0 in
    let is : Some (slice_range text start end) ≡ Some w = sym (strings-get bs i below) ∙ at in
    let same : slice_range text start end ≡ w = cc in
    subst IsUtf8 same
    (IsUtf8-between text start end u (ends_order bs i block below).0
    (char-start text (ends bs) i u all (omega (arith, within))) (all i within))

-- The ends and the text of a frozen table are those of its strings.

-- the numbers of a list are bytes: each is below 256
abbrev pub AreBytes : List ℕ → Type 0
AreBytes xs = (k : ℕ) → get_or xs k 0 < 256

-- strings that follow each other are the bytes from where they begin
text-from : (at n : ℕ) (xs es : List ℕ) → AreEnds at n es → length xs ≡ n →
    concat (strings_from at xs es) ≡ drop at xs
text-from at n xs [] h l = sym (drop_all at xs (omega (arith, h, l)))
text-from at n xs (e ∷ es) h l = ap (λ t. slice_range xs at e ++ t) (text-from e n xs es h.1 l)
    ∙ sym (drop_split xs at e h.0)

-- the number that four bytes make, written as four little-endian bytes, is these four
digits-back : (a b c d : ℕ) → a < 256 → b < 256 → c < 256 → d < 256 →
    to_le_bytes w32 (a + 256 * (b + 256 * (c + 256 * (d + 256 * 0)))) ≡ a ∷ b ∷ c ∷ d ∷ []
digits-back a b c d la lb lc ld = grind (arith, common_steps)

-- the number of the first four of some bytes, written as four bytes, is these four
four-back : (xs : List ℕ) → AreBytes xs → 4 ≤ length xs → to_le_bytes w32 (u32_at xs 0) ≡ take 4 xs
unfolding u32_at
four-back (a ∷ b ∷ c ∷ d ∷ xs) f l = digits-back a b c d (f 0) (f 1) (f 2) (f 3)
four-back xs f l = absurd (omega (arith, l))

-- the 32-bit number at any position of bytes is below 2 ^ 32
pub u32-below : (xs : List ℕ) (at : ℕ) → AreBytes xs → u32_at xs at < 2 ^ 32
unfolding u32_at
u32-below xs at f = omega (arith, f (at + 0), f (at + 1), f (at + 2), f (at + 3))

-- if each item of a list is a byte, so is each that is left without the first ones
drop-bytes : (xs : List ℕ) (at : ℕ) → AreBytes xs → AreBytes (drop at xs)
drop-bytes xs at f k = let same = get_or-drop at xs k 0 in omega (arith, same, f (at + k))

-- an end, as it stands in the bytes
end-back : (bs : List ℕ) (p : ℕ) → AreBytes bs → p + 4 ≤ length bs →
    to_le_bytes w32 (u32_at bs p) ≡ take 4 (drop p bs)
end-back bs p f l =
    let same : u32_at (drop p bs) 0 ≡ u32_at bs p = u32-in bs p 0 p (omega arith) in
    ap (to_le_bytes w32) (sym same)
    ∙ four-back (drop p bs) (drop-bytes bs p f) (omega (arith, length-drop p bs, l))

-- the ends of strings stand in the bytes one after the other
ends-from : (bs xs : List ℕ) (at n p k : ℕ) → AreBytes bs → AreEnds at n (numbers_at bs p k) → length xs ≡ n →
    p + 4 * k ≤ length bs
    → end_bytes at (strings_from at xs (numbers_at bs p k)) ≡ take (4 * k) (drop p bs)
ends-from bs xs at n p zero f h l w = refl
ends-from bs xs at n p (suc k) f h l w =
    let e = u32_at bs p in
    let string = slice_range xs at e in
    let others = strings_from e xs (numbers_at bs (p + 4) k) in
    let size : length string ≡ e - at =
    length-between xs at e (omega (arith, ends_within e n (numbers_at bs (p + 4) k) h.1, l)) in
    let same : end_behind at string ≡ e = omega (arith, size, h.0, u32-below bs p f) in
    let here = end-back bs p f (omega (arith, w)) in
    let rest = ends-from bs xs e n (p + 4) k f h.1 l (omega (arith, w)) in
    let many : 4 * suc k ≡ 4 + 4 * k = omega arith in
    rw (many, take-add 4 (4 * k) (drop p bs), drop-drop 4 p bs, same, ← here, ← rest) refl

module _ (bs : List ℕ) (f : AreBytes bs) (b : IsBlock bs) where
  -- the text is the strings, one behind the other
  pub text-is : text_section bs ≡ concat (strings bs)
  unfolding strings
  text-is =
      sym (text-from 0 (length bs - text_at bs) (drop (text_at bs) bs) (ends bs) b.ends
      (length-drop (text_at bs) bs))

  -- the section of ends is the ends of the strings, in four bytes each
  pub ends-are : ends_section bs ≡ end_bytes 0 (strings bs)
  unfolding strings
  ends-are =
      let within : ends_at bs + 4 * count bs ≤ length bs = omega (arith, b.sections.size) in
      let all = ends-from bs (drop (text_at bs) bs) 0 (length bs - text_at bs) (ends_at bs) (count bs) f
      b.ends (length-drop (text_at bs) bs) within in
      let size : pilots_at bs - ends_at bs ≡ 4 * count bs = omega arith in
      ap (λ m. take m (drop (ends_at bs) bs)) size ∙ sym all

  -- an identity by the two sections is one by the strings
  pub to-strings : (is_text : Bool) (id : DictionaryId) →
      IsIdOf is_text (count bs) (ends_section bs) (text_section bs) id → IsIdOfStrings is_text (strings bs) id
  to-strings is_text id h = rw (strings_length bs, ← ends-are, ← text-is) h

  -- an identity by the strings is one by the two sections
  pub of-strings : (is_text : Bool) (id : DictionaryId) → IsIdOfStrings is_text (strings bs) id →
      IsIdOf is_text (count bs) (ends_section bs) (text_section bs) id
  of-strings is_text id h = rw (strings_length bs, ← ends-are, ← text-is) at h

  -- if the header has the hashes of what the strings are, it says what they are
  pub of-header : (id : DictionaryId) → IsIdOfStrings (is_text_number (kind bs)) (strings bs) id →
      id.hash0 ≡ own0 bs → id.hash1 ≡ own1 bs → HasId bs
  of-header id h e0 e1 =
      let is = of-strings (is_text_number (kind bs)) id h in
      record { id = grind (arith, common_steps) }
