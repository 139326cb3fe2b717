-- What merging and renumbering keep.
use Rattle.intaglio_frozen.proofs.Names.{common_steps, flat_map-append, gets, slice_get_past, Key, first, Distinct, interned, interned_all, key_eq-decides, first-still, interned_all-append, issued-found, decode, missing, renumber, string_key, IsMap, RenumberingKeepsStrings, MapsCompose, MapsAreUnique, MergingNests}
use Rattle.std.proofs.Common.{◌≡◌, ◌∙◌, ℕ, zero, suc, ◌+◌, ◌<◌, ◌≤◌, Bool, true, false, cond, List, [], ◌∷◌, ◌++◌, length, map, get_or, refl, ap, Some, is_some, arith, slice_get}

module _ (new : List (List ℕ)) (few : length new ≤ missing) where
  -- a code by a map has the string that the code had
  pub same-string : (old : List (List ℕ)) (numbers : List ℕ) (c : ℕ) → IsMap old new numbers →
      slice_get new (get_or numbers c missing) ≡ slice_get old c
  same-string [] [] c is = slice_get_past new missing few
  same-string (w ∷ old) (n ∷ numbers) zero is = cc
  same-string (w ∷ old) (n ∷ numbers) (suc c) is =
      let rest : decode new numbers ≡ map Some old = cc in same-string old numbers c rest
  same-string old numbers c is = cc

  -- renumbered codes have the strings that the codes had
  pub renumbered : (old : List (List ℕ)) (numbers codes : List ℕ) → IsMap old new numbers →
      decode new (renumber numbers codes) ≡ decode old codes
  renumbered old numbers [] is = refl
  renumbered old numbers (c ∷ codes) is =
      rw (same-string old numbers c is, renumbered old numbers codes is) refl

-- codes that are renumbered by a map keep their strings, if the new list has at most `missing` strings
pub renumbering : RenumberingKeepsStrings
renumbering old new numbers codes is few = renumbered new few old numbers codes is

-- a map that is renumbered by a map is a map, if the last list has at most `missing` strings
pub composed : MapsCompose
composed old middle new numbers later first second few =
    renumbered new few middle later numbers second ∙ first

-- a string stands at one position, and at no two
module _ (new : List (List ℕ)) (distinct : Distinct string_key new) where
  pub apart : (a b : ℕ) (w : List ℕ) → a < b → slice_get new a ≡ Some w → slice_get new b ≡ Some w → ⊥
  apart a b w below one other = grind (arith, common_steps, gets, distinct a b [] below)

  -- so two maps to these strings are equal
  pub one-map : (old : List (List ℕ)) (numbers others : List ℕ) → IsMap old new numbers →
      IsMap old new others → numbers ≡ others
  one-map [] [] [] one other = refl
  one-map (w ∷ old) (a ∷ numbers) (b ∷ others) one other =
      let at-a : slice_get new a ≡ Some w = cc in
      let at-b : slice_get new b ≡ Some w = cc in
      let here : a ≡ b = grind (arith, apart a b w, apart b a w) in
      let rest : numbers ≡ others = one-map old numbers others (cc) (cc) in
      cc
  one-map old numbers others one other = cc

-- only one map leads to strings of which no two are equal
pub unique : MapsAreUnique
unique old new numbers others distinct one other = one-map new distinct old numbers others one other

-- a key that is found at once or behind is found after strings are interned
found-next : (held seen : List (List ℕ)) (w : List ℕ) (k : Key)
    → (is_some (first string_key seen k) ≡ true
    → is_some (first string_key (interned_all string_key held (w ∷ seen)) k) ≡ true)
    → is_some (first string_key (w ∷ seen) k) ≡ true
    → is_some (first string_key (interned_all string_key held (w ∷ seen)) k) ≡ true
found-next held seen w k again e =
    let here = first-still string_key (interned string_key held w) seen (string_key w) _ (issued-found string_key held w) in
    grind (arith, common_steps, key_eq-decides (string_key w) k)

-- a key that is found among strings is found after these are interned
found-again : (held seen : List (List ℕ)) (k : Key) → is_some (first string_key seen k) ≡ true →
    is_some (first string_key (interned_all string_key held seen) k) ≡ true
found-again held [] k e = cc
found-again held (w ∷ seen) k e = found-next held seen w k (found-again (interned string_key held w) seen k) e

-- interning a string into what was seen, and all of that then, is interning all of that and then the string
module _ (held seen : List (List ℕ)) (w : List ℕ) where
  step : (b : Bool) → is_some (first string_key seen (string_key w)) ≡ b
      → interned_all string_key held (cond b seen (seen ++ w ∷ []))
      ≡ interned string_key (interned_all string_key held seen) w
  step true is = let again = found-again held seen (string_key w) is in rw again refl
  step false is = interned_all-append string_key held seen (w ∷ [])

-- interning what interning strings into others leaves is interning these others, and then the strings
absorbed-seen : (held seen ws : List (List ℕ)) →
    interned_all string_key held (interned_all string_key seen ws)
    ≡ interned_all string_key (interned_all string_key held seen) ws
absorbed-seen held seen [] = refl
absorbed-seen held seen (w ∷ ws) =
    absorbed-seen held (interned string_key seen w) ws
    ∙ ap (λ t. interned_all string_key t ws)
    (step held seen w (is_some (first string_key seen (string_key w))) refl)

-- lists that are merged first, and then with others, have the union that they have at once
pub nested : MergingNests
nested before lists after = grind (arith, common_steps, flat_map-append, interned_all-append, absorbed-seen)
