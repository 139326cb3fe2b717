-- What is written of the lines of an input, frozen.
use Rattle.std.specs.Prelude.{◌≡◌, ℕ, ⊤, List, [], ◌∷◌, Option}
use Rattle.std.specs.Str.{IsUtf8}
use Rattle.intaglio_interner.specs.Issue.{interned_all, issue}
use Rattle.intaglio_lines.specs.Lines.{lines_of}
use Rattle.intaglio_lines.specs.Puts.{Writes}
use Rattle.intaglio_lines.specs.declared.error.StreamError.TheVariants.{Memory}
use Rattle.intaglio_frozen.specs.Identity.{IsIdOfTable}
use Rattle.intaglio_columns.specs.Writing.{column_of}
use Rattle.intaglio_frozen.specs.declared.id.DictionaryId.{DictionaryId}
use Rattle.intaglio_frozen.specs.Freezing.{IsRefusal as IsTableRefusal, IsTableOf}
use Rattle.intaglio_frozen.specs.Layout.{shards}
use Rattle.intaglio_frozen.specs.declared.kind.FrozenKind.{FrozenKind}
use Rattle.intaglio_frozen.specs.declared.kind.FrozenKind.TheVariants.{Bytes, Text}
use Rattle.intaglio_columns.specs.declared.error.FreezingError.{FreezingError}
use Rattle.intaglio_columns.specs.declared.error.FreezingError.TheVariants.{NotUtf8, Table, Stream}

-- the distinct lines, in the order of their first occurrences
abbrev pub distinct_lines : List ℕ → List (List ℕ)
distinct_lines input = interned_all (λ w. w ∷ []) [] (lines_of input)

-- the symbols of the lines among those
abbrev pub line_symbols : List ℕ → List ℕ
line_symbols input = issue (λ w. w ∷ []) (lines_of input)

-- the input can be split into lines of this kind
abbrev pub Allows : FrozenKind → List ℕ → Type 0
Allows Bytes input = ⊤
Allows Text input = IsUtf8 input

-- a frozen table of this kind, of these strings, under keys that are allowed, the only one of its set, is
-- written
abbrev pub WritesTable : {W : Type 0} → FrozenKind → (List ℕ → Type 0) → List (List ℕ) → (W → Option (List ℕ)) →
    W → W → Type 0
WritesTable kind HasAllowedKeys lines contents old new =
    (bytes : List ℕ) × IsTableOf kind lines bytes × (shards bytes ≡ 1) × HasAllowedKeys bytes
    × Writes contents old new bytes

-- the bytes are the column file of these symbols under a frozen table
abbrev pub IsColumnOf : List ℕ → List ℕ → List ℕ → Type 0
IsColumnOf table symbols file = (id : DictionaryId) × IsIdOfTable table id × (file ≡ column_of id symbols)

-- the column file of the lines of an input, under a table of its distinct lines, is written
abbrev pub WritesColumn : {V : Type 0} → FrozenKind → List ℕ → (V → Option (List ℕ)) → V → V → Type 0
WritesColumn kind input contents old new = (table file : List ℕ) × IsTableOf kind (distinct_lines input) table
    × IsColumnOf table (line_symbols input) file × Writes contents old new file

-- when each error is returned
abbrev pub IsRefusal : FrozenKind → List ℕ → FreezingError → Type 0
IsRefusal kind input NotUtf8 = ¬ (Allows kind input)
IsRefusal kind input (Table error) = IsTableRefusal kind (distinct_lines input) error
IsRefusal kind input (Stream failure) = ⊤

-- when each error is returned before anything is written of a union
abbrev pub IsUnionRefusal : FrozenKind → List (List ℕ) → FreezingError → Type 0
IsUnionRefusal kind strings NotUtf8 = ⊥
IsUnionRefusal kind strings (Table error) = IsTableRefusal kind strings error
IsUnionRefusal kind strings (Stream failure) = failure ≡ Memory
