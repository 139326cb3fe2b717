-- The first line of bytes, and the lines of what stands after it.
use Rattle.intaglio_lines.proofs.Names.{common_steps, position, position_or_len, slice_split_first, slice_split_none, length-slice_split, fails_before_first, passes_at_first, split_at_first, prefix_len-le-length, take_rest, lines_of, without_empty_last}
use Rattle.std.proofs.Common.{◌≡◌, ℕ, ◌+◌, ◌-◌, ◌<◌, Some, None, take, drop, List, [], ◌∷◌, Bool, eqb, eqb-true, ◌++◌, refl, length, arith, rules}

-- only the last piece may go
pub without_empty_last-cons : (x : List ℕ) (xs : List (List ℕ)) → 0 < length xs →
    without_empty_last (x ∷ xs) ≡ x ∷ without_empty_last xs
without_empty_last-cons x [] h = absurd (omega arith)
without_empty_last-cons x (y ∷ more) h = refl

-- a lone piece stays where it has a byte
pub without_empty_last-one : (x : List ℕ) → 0 < length x → without_empty_last (x ∷ []) ≡ x ∷ []
without_empty_last-one [] h = absurd (omega arith)
without_empty_last-one (b ∷ bs) h = search rules

-- what `position` says, by the first place that passes
pub position-Some : (p : ℕ → Bool) (bs : List ℕ) (end : ℕ) → position p bs ≡ Some end →
    (position_or_len p bs ≡ end) × (position_or_len p bs < length bs)
position-Some p bs end is = grind arith

-- if `position` gives no place, `position_or_len` gives the number of bytes
pub position-None : (p : ℕ → Bool) (bs : List ℕ) → position p bs ≡ None → position_or_len p bs ≡ length bs
position-None p bs is = grind (arith, prefix_len-le-length)

-- where there is a byte 10, the first line ends at the first
pub lines-cut-at : (bs : List ℕ) (end : ℕ) → position (λ b. eqb b 10) bs ≡ Some end
    → lines_of bs ≡ take end bs ∷ lines_of (take (length bs - (end + 1)) (drop (end + 1) bs))
lines-cut-at bs end is = grind (arith, eqb, position-Some (λ b. eqb b 10) bs end is, take_rest, length-slice_split, slice_split_first, without_empty_last-cons)

-- bytes without a byte 10, of which there is one at least, are one line
pub lines-cut-nowhere : (bs : List ℕ) → position (λ b. eqb b 10) bs ≡ None → 0 < length bs →
    lines_of bs ≡ bs ∷ []
lines-cut-nowhere bs is some = grind (arith, eqb, position-None (λ b. eqb b 10) bs is, fails_before_first, slice_split_none, without_empty_last-one)

-- the first line, its byte 10 and the rest are all of the bytes
pub whole-cut-at : (bs : List ℕ) (end : ℕ) → position (λ b. eqb b 10) bs ≡ Some end
    → bs ≡ take end bs ++ 10 ∷ take (length bs - (end + 1)) (drop (end + 1) bs)
whole-cut-at bs end is = grind (arith, eqb, position-Some (λ b. eqb b 10) bs end is, passes_at_first (λ b. eqb b 10) bs 0, split_at_first (λ b. eqb b 10) bs 0, take_rest bs (end + 1), eqb-true)

-- the cuts at the first byte 10
pub ruleset cuts = (lines-cut-at, lines-cut-nowhere, whole-cut-at)
