-- Columns: codes under a list of strings, maps from one list to another, and the union of lists.
use Rattle.std.specs.Prelude.{◌≡◌, ◌⊎◌, ℕ, ◌-◌, ◌^◌, List, [], ◌∷◌, map, get_or, slice_get, Option, Some}
use Rattle.std.specs.List.{flat_map}
use Rattle.intaglio_content.specs.Key.{Key}
use Rattle.intaglio_content.specs.Work.{Event}
use Rattle.intaglio_interner.specs.Batch.{IfOverflow}
use Rattle.intaglio_interner.specs.Issue.{interned_all}
use Rattle.intaglio_symbol.specs.declared.error.InternError.{InternError}

-- each of these strings is accepted
abbrev pub AreAccepted : (List ℕ → Type 0) → List (List ℕ) → Type 0
AreAccepted accepts strings = (i : ℕ) (w : List ℕ) → slice_get strings i ≡ Some w → accepts w

-- this holds of forms of these strings
abbrev pub OfForms : {F : Type 0} → (F → List ℕ) → List (List ℕ) → (List F → Type 0) → Type 0
OfForms {F} spelling strings P = (forms : List F) × (map spelling forms ≡ strings) × P forms

-- with this error and cost, either this holds of forms of these strings, or they couldn't be allocated
abbrev pub FailsAsForms : {F : Type 0} → (F → List ℕ) → List (List ℕ) → InternError → List Event →
    (List F → Type 0) → Type 0
FailsAsForms spelling strings e cost P = ((cost ≡ []) × IfOverflow e ⊥) ⊎ OfForms spelling strings P

-- strings are compared by their bytes
abbrev pub string_key : List ℕ → Key
string_key w = w ∷ []

-- keys are those of strings that are compared by their bytes
abbrev pub AreKeys : (List ℕ → Key) → Type 0
AreKeys key = (w : List ℕ) → key w ≡ string_key w

-- the code of a string that a dictionary doesn't have: no frozen table has that many strings
abbrev pub missing : ℕ
missing = 2 ^ 32 - 1

-- the string of each code, or none if it is no symbol
abbrev pub decode : List (List ℕ) → List ℕ → List (Option (List ℕ))
decode strings codes = map (λ code. slice_get strings code) codes

-- each string of a list is the one at its number in another list
abbrev pub IsMap : List (List ℕ) → List (List ℕ) → List ℕ → Type 0
IsMap old new numbers = decode new numbers ≡ map Some old

-- of each of several lists
abbrev pub AreMaps : List (List (List ℕ)) → List (List ℕ) → List (List ℕ) → Type 0
AreMaps lists new maps = map (decode new) maps ≡ map (map Some) lists

-- each code by a map. A code that isn't in the map is missing then
abbrev pub renumber : List ℕ → List ℕ → List ℕ
renumber numbers codes = map (λ code. get_or numbers code missing) codes

-- the distinct strings of lists, in the order of their first occurrences
abbrev pub union : List (List (List ℕ)) → List (List ℕ)
union lists = interned_all string_key [] (flat_map (λ strings. strings) lists)
