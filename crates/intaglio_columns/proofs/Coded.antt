-- Codes in bytes, and what they are decoded to.
use Rattle.std.proofs.Common.{◌≡◌, ◌∙◌, ap, sym, refl, ℕ, ◌^◌, ◌<◌, ◌≤◌, true, false, List, [], ◌∷◌, ◌++◌, length, map, Option, None, Some, IfSome, unwrap_or, is_some, arith}
use Rattle.intaglio_columns.proofs.Names.{flat_map, slice_get, AllByRecursion, recursion_from_All, slice_get_within, lines_of, spelling_line, flat_map-lines_of, position_in, code_pieces, code_in, has_code, line_of, DecodesToInput, AllFit}
use Rattle.std.proofs.lemmas.Nat.{from_le_bytes-to_le_bytes_4}
use Rattle.intaglio_frozen.specs.Merging.{missing}
use Rattle.intaglio_columns.specs.Columns.{code_bytes}
use Rattle.intaglio_columns.proofs.Found.{position-string}

-- the pieces of written codes are their bytes
written-pieces : {X : Type 0} (code : X → ℕ) (xs : List X) →
    code_pieces (flat_map (λ x. code_bytes (code x)) xs) ≡ map (λ x. code_bytes (code x)) xs
written-pieces code [] = refl
written-pieces code (x ∷ xs) = ap (λ t. code_bytes (code x) ∷ t) (written-pieces code xs)

module _ (strings : List (List ℕ)) (text : Option (List ℕ)) where
  line-back : (line : List ℕ) (o : Option ℕ) → length strings ≤ 2 ^ 32 → position_in strings line ≡ o →
      is_some o ≡ true → line_of strings text (code_bytes (unwrap_or o missing)) ≡ spelling_line line
  line-back line None few is some = cc
  line-back line (Some i) few is some =
      let there = position-string strings line (Some i) (sym is) in
      let below : i < 2 ^ 32 = omega (arith, slice_get_within strings i line there, few) in
      ap (λ n. spelling_line (unwrap_or (slice_get strings n) (unwrap_or text [])))
      (from_le_bytes-to_le_bytes_4 i below) ∙ ap (λ t. spelling_line (unwrap_or t (unwrap_or text []))) there

  lines-back : (lines : List (List ℕ)) → length strings ≤ 2 ^ 32 →
      AllByRecursion (λ line. has_code strings false line ≡ true) lines
      → flat_map (line_of strings text) (map (λ line. code_bytes (code_in strings line)) lines)
      ≡ flat_map spelling_line lines
  lines-back [] few all = refl
  lines-back (line ∷ lines) few all =
      rw (line-back line (position_in strings line) few refl all.0, lines-back lines few all.1) refl

-- if each line of an input is one of at most 2 ^ 32 strings, its codes are decoded to it, its last line ended
pub decodes-to-input : (strings : List (List ℕ)) (input : List ℕ) → length strings ≤ 2 ^ 32 →
    AllFit (has_code strings false) (lines_of input) → DecodesToInput strings input
decodes-to-input strings input few all text =
    ap (flat_map (line_of strings text)) (written-pieces (code_in strings) (lines_of input))
    ∙ lines-back strings text (lines_of input) few
    (recursion_from_All (λ line. has_code strings false line ≡ true) (lines_of input) all)
    ∙ flat_map-lines_of input

-- what follows where something is known
pub if-some : {X : Type 0} (o : Option X) (P Q : X → Type 0) → ((x : X) → P x → Q x) → IfSome o P → IfSome o Q
if-some None P Q f p = tt
if-some (Some x) P Q f p = f x p
