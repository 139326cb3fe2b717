-- Which codes a column can have.
use Rattle.std.specs.Prelude.{◌≡◌, ℕ, ◌<◌, ◌⊎◌, ◌==◌, ◌&&◌, not, nat_le, Bool, List, slice_get, Some}
use Rattle.intaglio_columns.specs.Width.{missing}

-- the code of one of n strings, or the missing code
abbrev pub IsCode : ℕ → ℕ → Type 0
IsCode n code = (code < n) ⊎ (code ≡ missing)

-- whether a code is neither
abbrev pub is_unknown : ℕ → ℕ → Bool
is_unknown n code = nat_le n code && not (code == missing)

-- each of these before n is one of both
abbrev pub AreCodesBefore : ℕ → ℕ → List ℕ → Type 0
AreCodesBefore n strings cs = (row code : ℕ) → row < n → slice_get cs row ≡ Some code → IsCode strings code

-- each of these is one of both
abbrev pub AreCodes : ℕ → List ℕ → Type 0
AreCodes n cs = (row code : ℕ) → slice_get cs row ≡ Some code → IsCode n code
