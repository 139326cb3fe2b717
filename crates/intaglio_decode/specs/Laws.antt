-- What holds of encoded outputs.
use Rattle.std.specs.Prelude.{◌≡◌, ◌≢◌, ◌↔◌, ℕ, ◌+◌, ◌^◌, ◌<◌, ◌≤◌, max, List, [], ◌∷◌, length, map, drop, find, unwrap_or, None, Some}
use Rattle.std.specs.List.{flat_map}
use Rattle.std.specs.Io.KnownBytes.{Appends}
use Rattle.intaglio_content.specs.Key.{Key}
use Rattle.intaglio_interner.specs.State.{key_eq, Distinct}
use Rattle.intaglio_lines.specs.Lines.{lines_of}
use Rattle.intaglio_lines.specs.Kind.{key_of}
use Rattle.intaglio_lines.specs.Output.{spelling_line}
use Rattle.intaglio_lines.specs.Encoded.{encoded}
use Rattle.intaglio_lines.specs.Decoded.{Holds, Decodes, decoded, with_last_line_ended}
use Rattle.intaglio_lines.specs.Fault.{fault_of}
use Rattle.intaglio_lines.specs.declared.kind.Kind.{Kind}
use Rattle.intaglio_lines.specs.declared.kind.Kind.TheVariants.{Path}

-- the first line whose key is that of this line
abbrev pub first_equal : (List ℕ → Key) → List (List ℕ) → List ℕ → List ℕ
first_equal key lines line = unwrap_or (find (λ other. key_eq (key other) (key line)) lines) line

-- each line in the spelling of the first line that is equal to it
abbrev pub first_spellings : (List ℕ → Key) → List (List ℕ) → List (List ℕ)
first_spellings key lines = map (first_equal key lines) lines

-- after `next` symbols were issued, each one was issued before or is the next one, and
-- in the end `count` were issued
abbrev pub AreInOrder : ℕ → List ℕ → ℕ → Type 0
AreInOrder next [] count = next ≡ count
AreInOrder next (symbol ∷ more) count = (symbol ≤ next) × AreInOrder (max next (symbol + 1)) more count

-- the symbols are issued in order, and no two spellings are equal
pub record IsIssued (kind : Kind) (symbols : List ℕ) (spellings : List (List ℕ)) : Type 0 where
  pub order : AreInOrder 0 symbols (length spellings)
  pub distinct : Distinct (key_of kind) spellings

-- bytes have no fault exactly if they hold symbols and spellings
abbrev pub FaultsAreExact : Type 0
FaultsAreExact = (bytes : List ℕ) → length bytes < 2 ^ 64
    → (fault_of bytes ≡ None) ↔
    ((symbols : List ℕ) × (spellings : List (List ℕ)) × Holds symbols spellings bytes)

-- bytes hold at most one list of symbols and one list of spellings
abbrev pub IsReadInOneWay : Type 0
IsReadInOneWay = (bytes symbols others : List ℕ) (spellings others_spelled : List (List ℕ)) →
    length bytes < 2 ^ 64
    → Holds symbols spellings bytes → Holds others others_spelled bytes → (symbols ≡ others)
    × (spellings ≡ others_spelled)

-- so bytes are decoded to one output
abbrev pub DecodingIsAFunction : Type 0
DecodingIsAFunction = (bytes output other : List ℕ) → length bytes < 2 ^ 64 → Decodes bytes output →
    Decodes bytes other → output ≡ other

-- and an input is encoded to one output: two runs that appended to these bytes
-- what is promised appended the same
abbrev pub EncodingIsAFunction : Type 0
EncodingIsAFunction = (kind : Kind) (input old new other_old other_new : List ℕ)
    → Appends (Some old) (Some new) (encoded kind input) →
    Appends (Some other_old) (Some other_new) (encoded kind input)
    → drop (length old) new ≡ drop (length other_old) other_new

-- an encoded input is decoded to each line in the spelling of the first line that is equal to it
abbrev pub DecodingGivesFirstSpellings : Type 0
DecodingGivesFirstSpellings = (kind : Kind) (input : List ℕ)
    → Decodes (encoded kind input) (flat_map spelling_line (first_spellings (key_of kind) (lines_of input)))

-- for each kind but paths, that is the input itself, its last line ended
abbrev pub DecodingGivesInput : Type 0
DecodingGivesInput = (kind : Kind) (input : List ℕ) → kind ≢ Path →
    Decodes (encoded kind input) (with_last_line_ended input)

-- so for each kind but paths, inputs with the same encoding are the same, their last lines ended
abbrev pub EncodingKeepsInput : Type 0
EncodingKeepsInput = (kind : Kind) (input other : List ℕ) → kind ≢ Path → length (encoded kind input) < 2 ^ 64
    → encoded kind input ≡ encoded kind other → with_last_line_ended input ≡ with_last_line_ended other

-- for each kind, the decoded lines have the keys of the input's lines, line by
-- line: for paths, their components
abbrev pub DecodingKeepsKeys : Type 0
DecodingKeepsKeys = (kind : Kind) (input : List ℕ)
    → (output : List ℕ) × Decodes (encoded kind input) output
    × (map (key_of kind) (lines_of output) ≡ map (key_of kind) (lines_of input))

-- an encoded input holds issued symbols
abbrev pub EncodingIsInOrder : Type 0
EncodingIsInOrder = (kind : Kind) (input : List ℕ)
    → (symbols : List ℕ) × (spellings : List (List ℕ)) × Holds symbols spellings (encoded kind input)
    × IsIssued kind symbols spellings

-- and bytes that hold issued symbols are the encoding of what they are decoded to
abbrev pub EncodingGivesBytes : Type 0
EncodingGivesBytes = (kind : Kind) (symbols : List ℕ) (spellings : List (List ℕ)) (bytes : List ℕ)
    → Holds symbols spellings bytes → IsIssued kind symbols spellings →
    encoded kind (decoded symbols spellings) ≡ bytes
