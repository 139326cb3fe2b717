-- Maps in columns, as one map.
use Rattle.std.proofs.Common.{◌≡◌, ◌≢◌, ◌∙◌, ◌==◌, sym, ap, refl, ℕ, zero, suc, ◌+◌, ◌<◌, ◌≤◌, true, false, List, [], ◌∷◌, ◌++◌, get_or, length, map, take, Some, inl, inr, append_assoc, length-append, arith, eq-eqb}
use Rattle.intaglio_columns.proofs.Names.{slice_get, All, length-map, map-append, true≢false, get_or_from_slice_get, slice_get-get_or, slice_get_within, AreWithin, joined, joined_map, sum_of, map-push, rows, strings, rows_from, missing, IsMapColumn, joined_codes}
use Rattle.intaglio_columns.proofs.CodesInFile.{all-length}
use Rattle.intaglio_columns.specs.Layout.{codes}
use Rattle.intaglio_columns.proofs.Listed.{next}
use Rattle.intaglio_columns.proofs.Unknown.{none-pass}

-- one number more was added
pub added-next : (ns : List ℕ) (i n : ℕ) → slice_get ns i ≡ Some n → (start : ℕ)
    (before held items : List ℕ)
    → held ≡ before ++ map (λ k. start + k) (take i ns) → items ≡ held ++ (start + n) ∷ []
    → items ≡ before ++ map (λ k. start + k) (take (i + 1) ns)
added-next ns i n at start before held items is more =
    rw (more, is, next ns i n at, map-append (λ k. start + k) (take i ns) (n ∷ []))
    (append_assoc before (map (λ k. start + k) (take i ns)) ((start + n) ∷ []))

-- where no row is missing, no code is the missing one
none-missing : (cs : List ℕ) → rows_from (λ c. c == missing) 0 cs ≡ [] → (i code : ℕ) →
    slice_get cs i ≡ Some code → code ≢ missing
none-missing cs none i code at same =
    let other = none-pass (λ c. c == missing) cs none i (slice_get_within cs i code at) in
    let is = get_or_from_slice_get cs i code 0 at in
    true≢false (sym (eq-eqb (get_or cs i 0) missing (is ∙ same)) ∙ other)

-- each number of a map is that of a string
pub below-at : (bs : List ℕ) → IsMapColumn bs → (i code : ℕ) → slice_get (codes bs) i ≡ Some code →
    code < strings bs
below-at bs is i code at =
    elim (is.column.codes i code at) as (λ _. code < strings bs) [
      | inl below ↦ below
      | inr same ↦ absurd (none-missing (codes bs) (is.column.full is.source) i code at same)
    ]

-- each code of a map is less than the strings of its dictionary
pub all-within : (maps : List (List ℕ)) → All IsMapColumn maps → AreWithin (map strings maps) (map codes maps)
all-within [] are = tt
all-within (m ∷ maps) are = (
  (λ i d within. below-at m (are 0 m (omega arith)) i (get_or (codes m) i d)
      (slice_get-get_or (codes m) i d within)),
  all-within maps (λ i d within. are (suc i) d (omega (arith, within))),
)

-- one count more
sum-push : (counts : List ℕ) (count : ℕ) → sum_of (counts ++ count ∷ []) ≡ sum_of counts + count
sum-push [] count = omega arith
sum-push (c ∷ counts) count = omega (arith, sum-push counts count)

-- the first of several maps have no more together than all
sum-front : (count : List ℕ → ℕ) (maps : List (List ℕ)) (i : ℕ) →
    sum_of (map count (take i maps)) ≤ sum_of (map count maps)
sum-front count [] zero = omega arith
sum-front count [] (suc i) = omega arith
sum-front count (m ∷ maps) zero = omega arith
sum-front count (m ∷ maps) (suc i) = omega (arith, sum-front count maps i)

module _ (maps : List (List ℕ)) (i : ℕ) (m : List ℕ) (at : slice_get maps i ≡ Some m) where
  -- one map more adds its count to the sum
  pub sum-next : (count : List ℕ → ℕ) →
      sum_of (map count (take (i + 1) maps)) ≡ sum_of (map count (take i maps)) + count m
  sum-next count = ap (λ t. sum_of (map count t)) (next maps i m at)
      ∙ ap sum_of (map-append count (take i maps) (m ∷ [])) ∙ sum-push (map count (take i maps)) (count m)

  -- one map more has no more than all
  pub sum-within : (count : List ℕ → ℕ) → sum_of (map count (take i maps)) + count m ≤ sum_of (map count maps)
  sum-within count = omega (arith, sum-next count, sum-front count maps (i + 1))

  -- one map more was joined
  pub joined-next : (start : ℕ) (held items : List ℕ) → start ≡ sum_of (map strings (take i maps)) →
      held ≡ joined_codes (take i maps) → items ≡ held ++ map (λ k. start + k) (codes m)
      → items ≡ joined_codes (take (i + 1) maps)
  joined-next start held items is before more =
      let front = take i maps in
      let from-zero : start ≡ 0 + sum_of (map strings front) = omega (arith, is) in
      let same = length-map front strings ∙ sym (length-map front codes) in
      rw (more, before, next maps i m at, map-append strings front (m ∷ []), map-append codes front (m ∷ []))
      (ap (λ s. joined_codes front ++ map (λ k. s + k) (codes m)) from-zero
      ∙ sym (map-push 0 (map strings front) (map codes front) (strings m) (codes m) same))

-- together maps have as many codes as rows
pub joined-rows : (n : ℕ) (maps : List (List ℕ)) →
    length (joined_map n (map strings maps) (map codes maps)) ≡ sum_of (map rows maps)
joined-rows n [] = refl
joined-rows n (m ∷ maps) =
    let rest = joined_map (n + strings m) (map strings maps) (map codes maps) in
    omega (
      arith,
      length-append (map (λ k. n + k) (codes m)) rest,
      length-map (codes m) (λ k. n + k),
      all-length m,
      joined-rows (n + strings m) maps,
    )

-- shards have as many strings as all of them together
pub joined-length : (lists : List (List (List ℕ))) → length (joined lists) ≡ sum_of (map length lists)
joined-length [] = refl
joined-length (ws ∷ lists) = omega (arith, length-append ws (joined lists), joined-length lists)
