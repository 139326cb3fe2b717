-- The parts of an encoded output.
use Rattle.std.specs.Prelude.{ℕ, ◌-◌, ◌^◌, min, List, length, map}
use Rattle.std.specs.Str.Parse.{digits_value}
use Rattle.intaglio_lines.specs.Fault.{symbol_lines, AreKnown}
use Rattle.intaglio_decode.specs.declared.parts.Parts.{Parts}

-- the symbols: the numbers of the lines before the first empty one
abbrev pub symbols_in : Parts → List ℕ
symbols_in parts = map (digits_value 10) (symbol_lines parts.bytes.now)

-- the spelling of each number
abbrev pub spellings_in : Parts → List (List ℕ)
spellings_in parts = map (λ spelling. spelling.now) parts.spellings.items

-- each symbol is the number of a spelling
abbrev pub AreSound : Parts → Type 0
AreSound parts = AreKnown (length (spellings_in parts)) (symbol_lines parts.bytes.now)

-- the number of these digits, or 2^64 - 1 if it is larger
abbrev pub value_in : List ℕ → ℕ
value_in digits = min (digits_value 10 digits) (2 ^ 64 - 1)
