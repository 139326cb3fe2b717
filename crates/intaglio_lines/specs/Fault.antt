-- What is wrong with bytes that aren't an encoded output.
use Rattle.std.specs.Prelude.{◌≡◌, ℕ, ◌+◌, ◌<◌, ◌==◌, ◌&&◌, not, nat_lt, Bool, true, false, List, [], ◌∷◌, length, if◌then◌else◌, Option, Some, None}
use Rattle.std.specs.Option.{option_or}
use Rattle.std.specs.List.{before_first, after_first, list_any, AllByRecursion}
use Rattle.std.specs.Str.{all_ascii_digits}
use Rattle.std.specs.Str.Parse.{digits_value}
use Rattle.intaglio_lines.specs.Lines.{lines_of}
use Rattle.intaglio_lines.specs.Decoded.{is_ended}

pub data Fault : Type 0 where
  -- the line at this position, counted from 1, should be a symbol and isn't a number
  not_a_number : ℕ → Fault
  -- the line at this position is this number, and no spelling has that number
  no_string : ℕ → List ℕ → Fault
  -- no line is empty
  no_empty_line : Fault
  -- the last line isn't ended by byte 10
  not_ended : Fault

abbrev pub is_blank : List ℕ → Bool
is_blank line = length line == 0

-- the lines that should be symbols: those before the first empty one
abbrev pub symbol_lines : List ℕ → List (List ℕ)
symbol_lines bytes = before_first is_blank (lines_of bytes)

-- the lines after the first empty one
abbrev pub spellings_of : List ℕ → List (List ℕ)
spellings_of bytes = after_first is_blank (lines_of bytes)

-- the number of spellings, if an empty line shows where they begin
abbrev pub spelling_count : List ℕ → Option ℕ
spelling_count bytes = if list_any is_blank (lines_of bytes) then Some (length (spellings_of bytes)) else None

-- one decimal digit, or several of which the first isn't 0
abbrev pub is_number : List ℕ → Bool
is_number [] = false
is_number (digit ∷ []) = all_ascii_digits (digit ∷ [])
is_number (digit ∷ next ∷ more) = not (digit == 48) && all_ascii_digits (digit ∷ next ∷ more)

-- whether a number is known to be too large for so many spellings
abbrev pub is_beyond : Option ℕ → ℕ → Bool
is_beyond None number = false
is_beyond (Some count) number = not (nat_lt number count)

-- what is wrong with the line at this position
abbrev pub line_fault : Option ℕ → ℕ → List ℕ → Option Fault
line_fault count place line =
    if not (is_number line) then Some (not_a_number place)
    else if is_beyond count (digits_value 10 line) then Some (no_string place line)
    else None

-- the first fault of lines, the first of which is at this position
abbrev pub first_fault : Option ℕ → ℕ → List (List ℕ) → Option Fault
first_fault count place [] = None
first_fault count place (line ∷ more) =
    option_or (line_fault count place line) (first_fault count (place + 1) more)

-- what is wrong with the end of bytes whose symbols are all right
abbrev pub end_fault : List ℕ → Option Fault
end_fault bytes =
    if not (is_ended bytes) then Some not_ended
    else if list_any is_blank (lines_of bytes) then None
    else Some no_empty_line

-- the first fault of the bytes
abbrev pub fault_of : List ℕ → Option Fault
fault_of bytes = option_or (first_fault (spelling_count bytes) 1 (symbol_lines bytes)) (end_fault bytes)

-- each line is the number of one of so many spellings
abbrev pub AreKnown : ℕ → List (List ℕ) → Type 0
AreKnown count lines = AllByRecursion (λ line. (is_number line ≡ true) × (digits_value 10 line < count)) lines
