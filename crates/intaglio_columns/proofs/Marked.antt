-- Which of the first marks are set.
use Rattle.std.proofs.Common.{◌≡◌, ℕ, ◌<◌, ◌==◌, Bool, false, List, get_or, Option, None, Some}
use Rattle.intaglio_columns.proofs.Names.{missing}

-- whether a position is the given one, and false if none is given
abbrev pub is_only : Option ℕ → ℕ → Bool
is_only None i = false
is_only (Some code) i = i == code

-- the code, if there is one, is less than n, and less than the missing one
abbrev pub IsBelow : Option ℕ → ℕ → Type 0
IsBelow None n = Unit {0}
IsBelow (Some code) n = (code < n) × (code < missing)

-- of the first n marks this one is set, if any is
pub record IsOnly (marks : List Bool) (n : ℕ) (only : Option ℕ) : Type 0 where
  pub below : IsBelow only n
  pub each : (i : ℕ) → i < n → get_or marks i false ≡ is_only only i
