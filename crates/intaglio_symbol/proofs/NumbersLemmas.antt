-- Lemmas on `numbers_from`, which `AllSymbols` is seen as.
use Rattle.std.proofs.Common.{zero, suc, ◌≡◌, ℕ, ◌+◌, ◌-◌, ◌<◌, false, cond, ◌&&◌, ◌||◌, ◌==◌, [], ◌∷◌, ◌++◌, length, refl, ◌∙◌, ap, arith}
use Rattle.std.proofs.lemmas.Bool.Decides.{nat_tests}
use Rattle.std.proofs.lemmas.List.FromFn.{length-range_with_len}
use Rattle.std.specs.Cmp.Lexicographic.{pointwise}
use Rattle.std.specs.List.{range_with_len}
use Rattle.intaglio_symbol.specs.AllSymbols.{numbers_from, first_or_zero}

-- a list of consecutive numbers is as long as its count
pub length-numbers_from : (first count : ℕ) → length (numbers_from first count) ≡ count
unfolding numbers_from
length-numbers_from first count = length-range_with_len first count

-- a count of 0 gives no numbers
pub numbers_from-none : (first count : ℕ) → count ≡ 0 → numbers_from first count ≡ []
unfolding numbers_from
numbers_from-none first count e = ap (range_with_len first) e

-- the first number, and the others
pub numbers_from-first : (first count : ℕ) → 0 < count →
    numbers_from first count ≡ first ∷ numbers_from (first + 1) (count - 1)
unfolding numbers_from
numbers_from-first first count l = let one : count ≡ suc (count - 1) = omega arith in
    ap (range_with_len first) one

-- with one more in the count, the first number plus the old count comes at the end
snoc : (count first : ℕ) → range_with_len first (suc count) ≡ range_with_len first count
    ++ (first + count) ∷ []
snoc zero first = let e : first ≡ first + 0 = omega arith in ap (λ x. x ∷ []) e
snoc (suc count) first =
    let e : first + 1 + count ≡ first + suc count = omega arith in
    ap (λ l. first ∷ l) (snoc count (first + 1) ∙ ap (λ x. range_with_len (first + 1) count ++ x ∷ []) e)

-- the last number, and the others
pub numbers_from-last : (first count : ℕ) → 0 < count →
    numbers_from first count ≡ numbers_from first (count - 1) ++ (first + (count - 1)) ∷ []
unfolding numbers_from
numbers_from-last first count l = let one : count ≡ suc (count - 1) = omega arith in
    ap (range_with_len first) one ∙ snoc (count - 1) first

-- if the count isn't 0, the choice between 0 and the first number gives the latter
some-first : (first count : ℕ) → first ≡ cond (suc count == 0) 0 first
some-first first count = grind (arith, nat_tests)

-- the first of consecutive numbers is the one that they count from, or 0 if there are none
pub first_or_zero-numbers_from : (first count : ℕ) →
    first_or_zero (numbers_from first count) ≡ cond (count == 0) 0 first
unfolding numbers_from
first_or_zero-numbers_from first zero = refl
first_or_zero-numbers_from first (suc count) = some-first first count

-- two ranges pass the test of lengths and first numbers exactly if their heads are equal and their rests pass
heads : (a b m n : ℕ) → (a == b && (m == n && (m == 0 || a + 1 == b + 1)))
    ≡ (suc m == suc n && (suc m == 0 || a == b))
heads a b m n = grind (arith, nat_tests)

-- an empty range and one that isn't empty fail the test of lengths and first numbers
shorter : (a b n : ℕ) → false ≡ (0 == suc n && (0 == 0 || a == b))
shorter a b n = grind (arith, nat_tests)

-- a range that isn't empty and an empty one fail the test of lengths and first numbers
longer : (a b m : ℕ) → false ≡ (suc m == 0 && (suc m == 0 || a == b))
longer a b m = grind (arith, nat_tests)

-- two ranges are equal exactly if their lengths are and, unless they are empty, their first numbers
pointwise-range : (a m b n : ℕ) → pointwise ◌==◌ (range_with_len a m) (range_with_len b n)
    ≡ (m == n && (m == 0 || a == b))
pointwise-range a zero b zero = refl
pointwise-range a zero b (suc n) = shorter a b n
pointwise-range a (suc m) b zero = longer a b m
pointwise-range a (suc m) b (suc n) = ap (λ rest. a == b && rest) (pointwise-range (a + 1) m (b + 1) n)
    ∙ heads a b m n

-- two such lists are equal exactly if they have the same length and, unless
-- they are empty, the same first number
pub pointwise-numbers_from : (a m b n : ℕ) → pointwise ◌==◌ (numbers_from a m) (numbers_from b n)
    ≡ (m == n && (m == 0 || a == b))
unfolding numbers_from
pointwise-numbers_from a m b n = pointwise-range a m b n

-- for `using`, in this crate and above
pub ruleset numbers_steps = (
  length-numbers_from,
  numbers_from-none,
  numbers_from-first,
  numbers_from-last,
  first_or_zero-numbers_from,
  pointwise-numbers_from,
)
