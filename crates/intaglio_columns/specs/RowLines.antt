-- What is written of the rows of a column file.
use Rattle.std.specs.Prelude.{◌≡◌, ℕ, ◌+◌, ◌-◌, ◌<◌, ◌≤◌, ◌==◌, cond, Bool, false, List, [], length, take, drop, get_or, slice_get, is_some, unwrap_or, Option, Some}
use Rattle.std.specs.List.{flat_map}
use Rattle.intaglio_lines.specs.Output.{spelling_line}
use Rattle.intaglio_lines.specs.StreamError.{IsWritingError}
use Rattle.intaglio_frozen.specs.Merging.{missing}
use Rattle.intaglio_columns.specs.declared.rows.RowRange.{RowRange}
use Rattle.intaglio_columns.specs.declared.error.RowsError.{RowsError}
use Rattle.intaglio_columns.specs.declared.error.RowsError.TheVariants.{NoRow, NoLine, Stream}

-- the string of a code, or the text that stands for missing ones
abbrev pub string_at : List (List ℕ) → Option (List ℕ) → ℕ → List ℕ
string_at strings text code = cond (code == missing) (unwrap_or text []) (get_or strings code [])

-- whether a code has one
abbrev pub has_line : List (List ℕ) → Option (List ℕ) → ℕ → Bool
has_line strings text code = cond (code == missing) (is_some text) (is_some (slice_get strings code))

-- the line of a code
abbrev pub code_line : List (List ℕ) → Option (List ℕ) → ℕ → List ℕ
code_line strings text code = spelling_line (string_at strings text code)

-- the codes from the first row of a range to its last
abbrev pub codes_between : List ℕ → RowRange → List ℕ
codes_between cs range = take (range.last + 1 - range.first) (drop range.first cs)

-- the lines of these rows
abbrev pub lines_between : List (List ℕ) → Option (List ℕ) → List ℕ → RowRange → List ℕ
lines_between strings text cs range = flat_map (code_line strings text) (codes_between cs range)

-- the lines of the rows of several ranges, one range after the other
abbrev pub row_lines : List (List ℕ) → Option (List ℕ) → List ℕ → List RowRange → List ℕ
row_lines strings text cs ranges = flat_map (lines_between strings text cs) ranges

-- the code of this row has no line
abbrev pub HasNoLine : List (List ℕ) → Type 0 → Option (List ℕ) → List ℕ → ℕ → Type 0
HasNoLine strings IsWhole text cs row =
    (code : ℕ) × (slice_get cs row ≡ Some code) × (IsWhole → has_line strings text code ≡ false)

-- when each error is returned of a range: its last row isn't there, or one of its rows has no line
abbrev pub IsRangeFault : List (List ℕ) → Type 0 → Option (List ℕ) → List ℕ → RowRange → RowsError → Type 0
IsRangeFault strings IsWhole text cs range (NoRow row) = (row ≡ range.last) × (length cs ≤ row)
IsRangeFault strings IsWhole text cs range (NoLine row) =
    (range.first ≤ row) × (row ≤ range.last) × HasNoLine strings IsWhole text cs row
IsRangeFault strings IsWhole text cs range (Stream failure) = IsWritingError failure

-- the ranges before n end at rows that are there
abbrev pub AreRangesBefore : ℕ → List ℕ → List RowRange → Type 0
AreRangesBefore n cs ranges = (m : ℕ) (range : RowRange) → m < n → slice_get ranges m ≡ Some range →
    range.last < length cs

-- one of several ranges has this fault, and those before it end at rows that are there
pub record HasRangeFault (strings : List (List ℕ)) (IsWhole : Type 0) (text : Option (List ℕ)) (cs : List ℕ)
    (ranges : List RowRange) (e : RowsError) : Type 0 where
  pub number : ℕ
  pub range : RowRange
  pub there : slice_get ranges number ≡ Some range
  pub before : AreRangesBefore number cs ranges
  pub fault : IsRangeFault strings IsWhole text cs range e

-- when each error is returned
abbrev pub IsRowsFault : List (List ℕ) → Type 0 → Option (List ℕ) → List ℕ → List RowRange → RowsError →
    Type 0
IsRowsFault strings IsWhole text cs ranges (Stream failure) = IsWritingError failure
IsRowsFault strings IsWhole text cs ranges (NoRow row) =
    HasRangeFault strings IsWhole text cs ranges (NoRow row)
IsRowsFault strings IsWhole text cs ranges (NoLine row) =
    HasRangeFault strings IsWhole text cs ranges (NoLine row)
