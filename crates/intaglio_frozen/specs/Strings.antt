-- Strings that follow each other in bytes.
use Rattle.std.specs.Prelude.{◌≡◌, ℕ, ◌≤◌, List, [], ◌∷◌, slice_range}

-- the strings between a beginning and the ends, which follow each other in the bytes
abbrev pub strings_from : ℕ → List ℕ → List ℕ → List (List ℕ)
strings_from at bytes [] = []
strings_from at bytes (e ∷ es) = slice_range bytes at e ∷ strings_from e bytes es

-- no end lies before the one before it, and the last is the length of the bytes
abbrev pub AreEnds : ℕ → ℕ → List ℕ → Type 0
AreEnds at all [] = at ≡ all
AreEnds at all (e ∷ es) = (at ≤ e) × AreEnds e all es
