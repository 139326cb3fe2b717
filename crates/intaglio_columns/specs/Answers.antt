-- What is written of a dictionary.
use Rattle.std.specs.Prelude.{◌≡◌, ⊤, ℕ, ◌+◌, ◌<◌, Bool, List, [], ◌∷◌, length, max, find, nat_le, slice_get, is_some, All, Option, None, Some, IfSome}
use Rattle.std.specs.List.{flat_map, fold, list_all}
use Rattle.intaglio_interner.specs.State.{first}
use Rattle.intaglio_lines.specs.Lines.{lines_of}
use Rattle.intaglio_lines.specs.Output.{number_line}
use Rattle.intaglio_lines.specs.Puts.{Writes}
use Rattle.intaglio_lines.specs.StreamError.{IsWritingError}
use Rattle.intaglio_columns.specs.declared.error.DictionaryError.{DictionaryError}
use Rattle.intaglio_columns.specs.declared.error.DictionaryError.TheVariants.{NoString, Stream}

-- the line of a symbol, or a dash
abbrev pub answer_line : Option ℕ → List ℕ
answer_line None = 45 ∷ 10 ∷ []
answer_line (Some symbol) = number_line symbol

-- the position of a line among strings
abbrev pub position_in : List (List ℕ) → List ℕ → Option ℕ
position_in strings line = first (λ w. w ∷ []) strings (line ∷ [])

-- the symbols of the lines of an input
abbrev pub answers : List (List ℕ) → List ℕ → List ℕ
answers strings input = flat_map (λ line. answer_line (position_in strings line)) (lines_of input)

-- what a look-up finds of a line is the symbol of an equal string, and in a whole dictionary the first one
abbrev pub IsFound : List (List ℕ) → Type 0 → List ℕ → Option ℕ → Type 0
IsFound strings IsWhole line found =
    IfSome found (λ symbol. slice_get strings symbol ≡ Some line)
    × (IsWhole → found ≡ position_in strings line)

-- these are found of these lines
abbrev pub AreFound : List (List ℕ) → Type 0 → List (List ℕ) → List (Option ℕ) → Type 0
AreFound strings IsWhole [] [] = ⊤
AreFound strings IsWhole [] (found ∷ more) = ⊥
AreFound strings IsWhole (line ∷ lines) [] = ⊥
AreFound strings IsWhole (line ∷ lines) (found ∷ more) =
    IsFound strings IsWhole line found × AreFound strings IsWhole lines more

-- what is found of the lines of an input is written, and whether something is found of each line
abbrev pub WritesFound : {W : Type 0} → List (List ℕ) → Type 0 → Bool → (W → Option (List ℕ)) → W → W →
    List ℕ → Type 0
WritesFound strings IsWhole all contents old new input =
    (found : List (Option ℕ)) × AreFound strings IsWhole (lines_of input) found
    × Writes contents old new (flat_map answer_line found) × (all ≡ list_all is_some found)

-- each is the symbol of a string
abbrev pub AreSymbols : List ℕ → List (List ℕ) → Type 0
AreSymbols symbols strings = All (λ symbol. symbol < length strings) symbols

-- the first that isn't
abbrev pub unknown : List ℕ → List (List ℕ) → Option ℕ
unknown symbols strings = find (λ symbol. nat_le (length strings) symbol) symbols

-- the error reports this symbol, or, if there is none, that an allocation or a write failed
abbrev pub Reports : DictionaryError → Option ℕ → Type 0
Reports (NoString symbol) first = first ≡ Some symbol
Reports (Stream failure) first = (first ≡ None) × IsWritingError failure

-- how many bytes the strings have together
abbrev pub total : List (List ℕ) → ℕ
total strings = fold (λ bytes string. bytes + length string) 0 strings

-- the length of the longest string
abbrev pub longest : List (List ℕ) → ℕ
longest strings = fold (λ most string. max most (length string)) 0 strings
