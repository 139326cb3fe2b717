-- What is found of lines.
use Rattle.std.proofs.Common.{◌≡◌, ℕ, List, [], ◌∷◌, ◌++◌, Option, Some, None, IfSome, option_map, slice_get, sym, refl, subst}
use Rattle.intaglio_columns.proofs.Names.{flat_map, AreFound, IsFound, answer_line, position_in}
use Rattle.intaglio_interner.proofs.Laws.{first-key}

-- if a string that may be there has the key of a line, it is there and is the line
same-string : (o : Option (List ℕ)) (line : List ℕ) → option_map (λ w. w ∷ []) o ≡ Some (line ∷ []) →
    o ≡ Some line
same-string None line e = cc
same-string (Some w) line e = cc

-- the string at the position of a line is equal to it
pub position-string : (strings : List (List ℕ)) (line : List ℕ) (found : Option ℕ) →
    found ≡ position_in strings line → IfSome found (λ symbol. slice_get strings symbol ≡ Some line)
position-string strings line None e = tt
position-string strings line (Some symbol) e =
    same-string (slice_get strings symbol) line (first-key (λ w. w ∷ []) strings (line ∷ []) symbol (sym e))

module _ (strings : List (List ℕ)) (IsWhole : Type 0) where
  -- one line more
  pub found-next : (lines : List (List ℕ)) (found : List (Option ℕ)) (line : List ℕ) (one : Option ℕ)
      → AreFound strings IsWhole lines found → IsFound strings IsWhole line one
      → AreFound strings IsWhole (lines ++ line ∷ []) (found ++ one ∷ [])
  found-next [] [] line one before next = (next, tt)
  found-next [] (x ∷ xs) line one before next = absurd before
  found-next (l ∷ ls) [] line one before next = absurd before
  found-next (l ∷ ls) (x ∷ xs) line one before next = (before.0, found-next ls xs line one before.1 next)

  -- in a whole dictionary what is found is the answer
  pub found-answers : (lines : List (List ℕ)) (found : List (Option ℕ)) →
      AreFound strings IsWhole lines found → IsWhole
      → flat_map answer_line found ≡ flat_map (λ line. answer_line (position_in strings line)) lines
  found-answers [] [] each whole = refl
  found-answers [] (x ∷ xs) each whole = absurd each
  found-answers (l ∷ ls) [] each whole = absurd each
  found-answers (l ∷ ls) (x ∷ xs) each whole = rw (each.0.1 whole, found-answers ls xs each.1 whole) refl

-- what holds of the bytes that were read holds of the input
pub of-input : (known : Option (List ℕ)) (bytes : List ℕ) (P : List ℕ → Type 0) →
    IfSome known (λ input. bytes ≡ input) → P bytes → IfSome known P
of-input None bytes P same holds = tt
of-input (Some input) bytes P same holds = subst P same holds
