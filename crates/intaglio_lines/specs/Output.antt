-- What an encoded output consists of.
use Rattle.std.specs.Prelude.{ℕ, List, [], ◌∷◌, ◌++◌}
use Rattle.std.specs.List.{flat_map}
use Rattle.std.specs.Fmt.{decimal}

-- a number in decimal, followed by byte 10
abbrev pub number_line : ℕ → List ℕ
number_line n = decimal n ++ 10 ∷ []

-- a spelling, followed by byte 10
abbrev pub spelling_line : List ℕ → List ℕ
spelling_line spelling = spelling ++ 10 ∷ []

-- the symbols, an empty line, and the spellings
abbrev pub output_of : List ℕ → List (List ℕ) → List ℕ
output_of symbols spellings = flat_map number_line symbols ++ 10 ∷ flat_map spelling_line spellings
