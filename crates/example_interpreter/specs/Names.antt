-- Names in nested scopes.
use Rattle.std.specs.Prelude.{◌≡◌, ◌≢◌, ℕ, ◌<◌, List, [], slice_get, unwrap_or, Option, Some, None}
use Rattle.intaglio.specs.State.{State, spelling_at}
use Rattle.intaglio.specs.StrContent.{str_content_bytes}
use Rattle.intaglio.specs.Types.{StrContent}

-- the text of a symbol
abbrev pub name_of : State StrContent → ℕ → List ℕ
name_of names symbol = unwrap_or (spelling_at str_content_bytes names symbol) []

-- the last position of an element, if there is one
abbrev pub IsLast : {X : Type 0} → List X → X → Option ℕ → Type 0
IsLast xs x None = (j : ℕ) → slice_get xs j ≢ Some x
IsLast xs x (Some i) = (slice_get xs i ≡ Some x) × ((j : ℕ) → i < j → slice_get xs j ≢ Some x)
