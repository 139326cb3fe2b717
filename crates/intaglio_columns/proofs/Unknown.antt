-- Codes that are neither those of strings nor missing.
use Rattle.intaglio_columns.proofs.Names.{common_steps, nat_tests, get_or_from_slice_get, slice_get-get_or, slice_get_within, AreCodes, IsCode, is_unknown, HasNoString, IsNextRow, rows_from}
use Rattle.std.proofs.Common.{◌≡◌, ◌≢◌, ◌∙◌, ℕ, zero, suc, ◌+◌, ◌<◌, ◌≤◌, inl, inr, Bool, true, false, cond, List, [], ◌∷◌, length, get_or, slice_get, Option, None, Some, MatchOption, refl, subst, sym, ap, arith}

-- a row before the first one that passes doesn't pass, or is before the others
first-past : (k d i : ℕ) (b : Bool) (rest : List ℕ) → k + i < get_or (cond b (k ∷ rest) rest) 0 d →
    (b ≡ false) × (k + i < get_or rest 0 d)
first-past k d i true rest later = absurd (omega arith)
first-past k d i false rest later = (refl, later)

-- before the first row that passes, or before d where none does, no code passes
pub none-before : (p : ℕ → Bool) (k d : ℕ) (cs : List ℕ) (i : ℕ) → i < length cs →
    k + i < get_or (rows_from p k cs) 0 d → p (get_or cs i 0) ≡ false
none-before p k d [] i l later = absurd (omega arith)
none-before p k d (x ∷ xs) zero l later = (first-past k d 0 (p x) (rows_from p (k + 1) xs) later).0
none-before p k d (x ∷ xs) (suc i) l later =
    let rest = first-past k d (suc i) (p x) (rows_from p (k + 1) xs) later in
    none-before p (k + 1) d xs i (omega arith) (omega (arith, rest.1))

-- where no row passes, no code does
pub none-pass : (p : ℕ → Bool) (cs : List ℕ) → rows_from p 0 cs ≡ [] → (i : ℕ) → i < length cs →
    p (get_or cs i 0) ≡ false
none-pass p cs none i l =
    none-before p 0 (suc i) cs i l (subst (λ rows. 0 + i < get_or rows 0 (suc i)) (sym none) (omega arith))

-- a code that isn't unknown is that of one of n strings, or the missing one
code-known : (n c : ℕ) → is_unknown n c ≡ false → IsCode n c
code-known n c e = grind (arith, common_steps)

-- an unknown code is neither that of one of n strings nor the missing one
code-unknown : (n c : ℕ) → is_unknown n c ≡ true → ¬ IsCode n c
code-unknown n c e (inl l) = grind (arith, nat_tests)
code-unknown n c e (inr same) = grind (arith, nat_tests)

-- a code that the test doesn't pass is known
known-at : (n count : ℕ) (cs : List ℕ) → count ≡ n → (row code : ℕ) → slice_get cs row ≡ Some code →
    is_unknown count (get_or cs row 0) ≡ false → IsCode n code
known-at n count cs e row code at known = grind (arith, common_steps, code-known, get_or_from_slice_get)

-- the first row whose code is unknown, or all are known
pub first-of-unknown : (n count : ℕ) (cs : List ℕ) (found : Option ℕ) → count ≡ n →
    IsNextRow (is_unknown count) 0 cs found
    → MatchOption found (AreCodes n cs) (HasNoString n cs)
first-of-unknown n count cs None e none = λ row code at. known-at n count cs e row code at
    (none-pass (is_unknown count) cs none row (slice_get_within cs row code at))
first-of-unknown n count cs (Some row) e is = (
  get_or cs row 0,
  slice_get-get_or cs row 0 is.within,
  (λ i code l at. known-at n count cs e i code at
      (none-before (is_unknown count) 0 0 cs i (slice_get_within cs i code at)
      (subst (λ rows. 0 + i < get_or rows 0 0) (sym is.first) (omega (arith, l))))),
  code-unknown n (get_or cs row 0) (ap (λ m. is_unknown m (get_or cs row 0)) (sym e) ∙ is.passes),
)
