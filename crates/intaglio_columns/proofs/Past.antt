-- The rows from one on whose codes pass a test.
use Rattle.std.proofs.Common.{◌≡◌, ◌∙◌, ℕ, suc, ◌+◌, ◌<◌, ◌≤◌, inl, inr, Bool, true, false, cond, List, [], ◌∷◌, ◌++◌, length, get_or, refl, sym, ap, arith, append_assoc}
use Rattle.intaglio_columns.proofs.Names.{count_by, cases_Bool, drop_all, drop_more, CountsAmong, IsFirstRow, rows_from, rows_past}
use Rattle.std.proofs.lemmas.List.Recursion.{is_count_by}

module _ (p : ℕ → Bool) (cs : List ℕ) (row : ℕ) where
  past-step : row < length cs →
      rows_past p row cs ≡ cond (p (get_or cs row 0)) (row ∷ rows_past p (row + 1) cs)
      (rows_past p (row + 1) cs)
  past-step l = ap (rows_from p row) (drop_more cs row 0 l)

  -- if the code of a row passes, the row is the first from itself on
  pub past-yes : row < length cs → p (get_or cs row 0) ≡ true →
      rows_past p row cs ≡ row ∷ rows_past p (row + 1) cs
  past-yes l e = past-step l ∙ ap (λ b. cond b (row ∷ rows_past p (row + 1) cs) (rows_past p (row + 1) cs)) e

  -- if it doesn't, those from this row on are those from the next one on
  pub past-no : row < length cs → p (get_or cs row 0) ≡ false → rows_past p row cs ≡ rows_past p (row + 1) cs
  past-no l e = past-step l ∙ ap (λ b. cond b (row ∷ rows_past p (row + 1) cs) (rows_past p (row + 1) cs)) e

  -- from the end on no rows pass
  pub past-end : length cs ≤ row → rows_past p row cs ≡ []
  past-end l = ap (rows_from p row) (drop_all row cs l)

-- two lists of equal length stay so if a number is put in front of both, or of neither
same-length : (b : Bool) (k j : ℕ) (xs ys : List ℕ) → length xs ≡ length ys →
    length (cond b (k ∷ xs) xs) ≡ length (cond b (j ∷ ys) ys)
same-length true k j xs ys e = ap suc e
same-length false k j xs ys e = e

-- wherever the first row is, as many pass
shifted : (p : ℕ → Bool) (k j : ℕ) (cs : List ℕ) → length (rows_from p k cs) ≡ length (rows_from p j cs)
shifted p k j [] = refl
shifted p k j (c ∷ cs) =
    same-length (p c) k j (rows_from p (k + 1) cs) (rows_from p (j + 1) cs) (shifted p (k + 1) (j + 1) cs)

-- a list of n items has 1 + n if a number is put in front of it, and n if none is
one-more : (b : Bool) (k n : ℕ) (xs : List ℕ) → length xs ≡ n → length (cond b (k ∷ xs) xs) ≡ cond b (1 + n) n
one-more true k n xs e = omega (arith, e)
one-more false k n xs e = e

-- as many as codes that pass
pub rows-count : (p : ℕ → Bool) (cs : List ℕ) → length (rows_from p 0 cs) ≡ count_by p cs
rows-count p cs =
    is_count_by (λ t. length (rows_from p 0 t)) p refl
    (λ x xs. one-more (p x) 0 (length (rows_from p 0 xs)) (rows_from p 1 xs) (shifted p 1 0 xs)) cs

-- one row more of those that were counted
module _ (p : ℕ → Bool) (cs : List ℕ) (from row count n : ℕ) (before : CountsAmong p from row cs count)
    (within : row < length cs) where
  one-passes : p (get_or cs row 0) ≡ true → n ≡ 1 → CountsAmong p from (row + 1) cs (count + n)
  one-passes e is = record {
    count = omega (arith, is, before.count, ap length (past-yes p cs row within e));
    few = omega (arith, is, before.few);
    none = λ zero. absurd (omega (arith, is, zero));
  }

  none-passes : p (get_or cs row 0) ≡ false → n ≡ 0 → CountsAmong p from (row + 1) cs (count + n)
  none-passes e is = record {
    count = omega (arith, is, before.count, ap length (past-no p cs row within e));
    few = omega (arith, is, before.few);
    none = λ zero. before.none (omega (arith, is, zero)) ∙ past-no p cs row within e;
  }

  -- one row more counts 1 if its code passes, and otherwise 0
  pub counted-more : (b : Bool) → b ≡ p (get_or cs row 0) → (b ≡ true → n ≡ 1) → (b ≡ false → n ≡ 0) →
      CountsAmong p from (row + 1) cs (count + n)
  counted-more b is one zero = elim (cases_Bool b) [
    | inl passed ↦ one-passes (sym is ∙ passed) (one passed)
    | inr failed ↦ none-passes (sym is ∙ failed) (zero failed)
  ]

-- one row more of those that pass
pub more-rows-of : (p : ℕ → Bool) (cs done all : List ℕ) (from row : ℕ) → done ++ rows_past p from cs ≡ all →
    IsFirstRow p from cs row
    → (done ++ row ∷ []) ++ rows_past p (row + 1) cs ≡ all
more-rows-of p cs done all from row before is =
    append_assoc done (row ∷ []) (rows_past p (row + 1) cs) ∙ ap (λ t. done ++ t) (sym is.first) ∙ before
