-- Conversions of numbers to symbols.
use Rattle.std.specs.Prelude.{◌<◌, ◌^◌, ℕ, Result, OkIff}

-- the conversion of a number keeps it if it is below 2^32, and fails otherwise
abbrev pub Converts : {E : Type 0} → ℕ → Result ℕ E → Type 0
Converts n r = OkIff r (n < 2 ^ 32) n
