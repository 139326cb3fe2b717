-- Columns in files: a code is four bytes, little-endian.
use Rattle.std.specs.Prelude.{◌≡◌, ℕ, ◌+◌, ◌-◌, ◌^◌, ◌<◌, ◌≤◌, ◌==◌, ◌&&◌, ◌||◌, min, Bool, List, [], ◌∷◌, length, map, slice_get, is_some, unwrap_or, position, Option, None}
use Rattle.std.specs.List.{flat_map}
use Rattle.std.specs.Int.{w32, to_le_bytes, from_le_bytes}
use Rattle.intaglio_lines.specs.Lines.{lines_of}
use Rattle.intaglio_lines.specs.Output.{spelling_line}
use Rattle.intaglio_lines.specs.Decoded.{with_last_line_ended}
use Rattle.intaglio_frozen.specs.Merging.{missing}
use Rattle.intaglio_columns.specs.Answers.{position_in}
use Rattle.intaglio_columns.specs.Translation.{IsFirstMisfit}
use Rattle.intaglio_columns.specs.declared.error.CodesError.{CodesError}
use Rattle.intaglio_columns.specs.declared.error.CodesError.TheVariants.{NoSymbol, NoString, ShortCode, Stream}

-- the bytes of a code, and the code of four bytes
abbrev pub code_bytes : ℕ → List ℕ
code_bytes code = to_le_bytes w32 code

abbrev pub code_of : List ℕ → ℕ
code_of bytes = from_le_bytes w32 bytes

-- bytes, cut into pieces of four, of which the last may be shorter
abbrev pub code_pieces : List ℕ → List (List ℕ)
code_pieces [] = []
code_pieces (a ∷ []) = (a ∷ []) ∷ []
code_pieces (a ∷ b ∷ []) = (a ∷ b ∷ []) ∷ []
code_pieces (a ∷ b ∷ c ∷ []) = (a ∷ b ∷ c ∷ []) ∷ []
code_pieces (a ∷ b ∷ c ∷ d ∷ more) = (a ∷ b ∷ c ∷ d ∷ []) ∷ code_pieces more

-- the codes of bytes
abbrev pub codes_of : List ℕ → List ℕ
codes_of bytes = map code_of (code_pieces bytes)

-- whether a line has a code, where missing lines have one or not, and which
abbrev pub has_code : List (List ℕ) → Bool → List ℕ → Bool
has_code strings with_missing line = with_missing || is_some (position_in strings line)

abbrev pub code_in : List (List ℕ) → List ℕ → ℕ
code_in strings line = unwrap_or (position_in strings line) missing

-- no line ends within these bytes
abbrev pub HasNoEnd : List ℕ → Type 0
HasNoEnd bytes = position (λ b. b == 10) bytes ≡ None

-- the code of a line, in bytes, and those of the lines of an input
abbrev pub encoded_line : List (List ℕ) → List ℕ → List ℕ
encoded_line strings line = code_bytes (code_in strings line)

abbrev pub encoded_column : List (List ℕ) → List ℕ → List ℕ
encoded_column strings input = flat_map (encoded_line strings) (lines_of input)

-- whether four bytes are the code of a string, or the missing code where that has a text
abbrev pub has_string : List (List ℕ) → Option (List ℕ) → List ℕ → Bool
has_string strings text piece =
    (length piece == 4) &&
    (is_some (slice_get strings (code_of piece)) || (is_some text && (code_of piece == missing)))

-- the line of a code
abbrev pub line_of : List (List ℕ) → Option (List ℕ) → List ℕ → List ℕ
line_of strings text piece = spelling_line (unwrap_or (slice_get strings (code_of piece)) (unwrap_or text []))

-- the lines of codes
abbrev pub decoded_column : List (List ℕ) → Option (List ℕ) → List ℕ → List ℕ
decoded_column strings text bytes = flat_map (line_of strings text) (code_pieces bytes)

-- what is encoded and then decoded is the input, its last line ended
abbrev pub DecodesToInput : List (List ℕ) → List ℕ → Type 0
DecodesToInput strings input = (text : Option (List ℕ)) →
    decoded_column strings text (encoded_column strings input) ≡ with_last_line_ended input

-- a position counted from 1, which stops at the largest `u64`
abbrev pub from_one : ℕ → ℕ
from_one position = min (position + 1) (2 ^ 64 - 1)

module _ (fits : List ℕ → Bool) where
  -- the first line without a code is reported, by its number
  abbrev pub ReportsLine : CodesError → List (List ℕ) → Type 0
  ReportsLine (NoSymbol number) lines =
      (position size : ℕ) × (number ≡ from_one position) × IsFirstMisfit fits lines position size
  ReportsLine (NoString number) lines = ⊥
  ReportsLine (ShortCode number) lines = ⊥
  ReportsLine (Stream failure) lines = Unit {0}

  -- the first code that is none is reported, by its number, and whether it is cut short
  abbrev pub ReportsCode : CodesError → List (List ℕ) → Type 0
  ReportsCode (NoSymbol number) codes = ⊥
  ReportsCode (NoString number) codes = (position size : ℕ) × (number ≡ from_one position) × (4 ≤ size)
      × IsFirstMisfit fits codes position size
  ReportsCode (ShortCode number) codes = (position size : ℕ) × (number ≡ from_one position) × (size < 4)
      × IsFirstMisfit fits codes position size
  ReportsCode (Stream failure) codes = Unit {0}
