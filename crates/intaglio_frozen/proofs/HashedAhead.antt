-- Numbers of strings, one beside each: what holds of those so far, and of one more.
use Rattle.std.proofs.Common.{◌≡◌, ℕ, ◌+◌, ◌<◌, ◌≤◌, ◌⊎◌, inl, inr, List, [], ◌∷◌, ◌++◌, length, map, take, drop, sym, ap, ◌∙◌, append_assoc, arith, Some, slice_get, get_or, set}
use Rattle.intaglio_frozen.proofs.Names.{common_steps, cases_lt, take_all, take_more_set, take-append-drop, drop_more, drop_all, map_push, gets, AreFirst}

-- the element at a position, and those before and behind it
module _ {X : Type 0} (xs : List X) (i : ℕ) (x : X) (there : slice_get xs i ≡ Some x) where
  pub drop_there : drop i xs ≡ x ∷ drop (i + 1) xs
  drop_there = grind (arith, common_steps, gets)

  pub take_there : take (i + 1) xs ≡ take i xs ++ x ∷ []
  take_there = grind (arith, common_steps, gets)

-- a loop that ends at the shorter of both
pub stops : (n m i : ℕ) → (i < n → m ≤ i) → (n ≤ i) ⊎ (m ≤ i)
stops n m i short = elim (cases_lt i n) [ inl less ↦ inr (short less) | inr all ↦ inl all ]

-- a string among those from a position on
pub behind : (strings : List (List ℕ)) (place i : ℕ) (string : List ℕ) →
    slice_get strings (place + i) ≡ Some string → slice_get (drop place strings) i ≡ Some string
behind strings place i string there = grind (arith, common_steps, gets)

module _ (P : List ℕ → ℕ → Type 0) where
  no-strings : (ns : List ℕ) → AreFirst P [] ns
  no-strings [] = tt
  no-strings (n ∷ ns) = tt

  -- the number of a string, and those of the strings behind it
  pub first : (strings : List (List ℕ)) (ns : List ℕ) (i used : ℕ) (string : List ℕ) →
      slice_get strings i ≡ Some string → used < length ns → AreFirst P (drop i strings) (drop used ns)
      → P string (get_or ns used 0) × AreFirst P (drop (i + 1) strings) (drop (used + 1) ns)
  first strings ns i used string there left are = rw (drop_there strings i string there, drop_more ns used 0 left) at are

  -- the number of one string, at the last place of a list
  pub alone : (strings : List (List ℕ)) (ns : List ℕ) (i last n : ℕ) (string : List ℕ) →
      slice_get strings i ≡ Some string → length ns ≡ last + 1 → P string n →
      AreFirst P (drop i strings) (drop last (set ns last n))
  alone strings ns i last n string there places is =
      let one : drop last (set ns last n) ≡ n ∷ [] = grind (arith, common_steps) in
      rw (drop_there strings i string there, one) (is, tt)

  -- with the numbers of the strings that are left, those so far are those of all strings
  abbrev pub Continues : List (List ℕ) → List (List ℕ) → List ℕ → Type 0
  Continues all left before = (ns : List ℕ) → AreFirst P left ns → AreFirst P all (before ++ ns)

  -- one more number, at the place of the next string
  pub more : (all : List (List ℕ)) (ns : List ℕ) (i n : ℕ) (string : List ℕ) → slice_get all i ≡ Some string →
      i < length ns → P string n
      → Continues all (drop i all) (take i ns) → Continues all (drop (i + 1) all) (take (i + 1) (set ns i n))
  more all ns i n string there inside is continues behind are =
      rw (take_more_set ns i n inside, append_assoc)
      (continues (n ∷ behind) (rw (drop_there all i string there) (is, are)))

  at-end : (all : List (List ℕ)) (ns : List ℕ) (i : ℕ) → (length all ≤ i) ⊎ (length ns ≤ i) →
      AreFirst P (drop i all) (drop i ns)
  at-end all ns i (inl end) = rw (drop_all i all end) (no-strings (drop i ns))
  at-end all ns i (inr end) = rw (drop_all i ns end) tt

  -- in the end they are the numbers of all strings, as far as both lists go
  pub all_first : (all : List (List ℕ)) (ns : List ℕ) (i : ℕ) → (length all ≤ i) ⊎ (length ns ≤ i) →
      Continues all (drop i all) (take i ns) → AreFirst P all ns
  all_first all ns i ends continues = rw take-append-drop at (continues (drop i ns) (at-end all ns i ends))

-- the same of numbers that are fixed
module _ (f : List ℕ → ℕ) (all : List (List ℕ)) (ns : List ℕ) (i : ℕ) where
  -- one more number, which is that of the next string
  pub mapped : (n : ℕ) (string : List ℕ) → slice_get all i ≡ Some string → i < length ns → n ≡ f string →
      take i ns ≡ map f (take i all) → take (i + 1) (set ns i n) ≡ map f (take (i + 1) all)
  mapped n string there inside is before =
      take_more_set ns i n inside ∙ (λ j. before j ++ is j ∷ []) ∙ sym (map_push f (take i all) string)
      ∙ ap (map f) (sym (take_there all i string there))

  -- in the end they are those of all strings
  pub all-mapped : length all ≤ i → length ns ≡ length all → take i ns ≡ map f (take i all) → ns ≡ map f all
  all-mapped end places are = sym (take_all i ns (omega (arith, end, places))) ∙ are
      ∙ ap (map f) (take_all i all end)
