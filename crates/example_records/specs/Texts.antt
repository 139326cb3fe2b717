-- The texts of two tables.
use Rattle.std.specs.Prelude.{◌≡◌, ℕ, List, [], ◌∷◌, map, Option, Some, MatchOption}
use Rattle.intaglio.specs.Keys.{str_key}
use Rattle.intaglio.specs.State.{State, first, spelling_at}
use Rattle.intaglio.specs.StrContent.{str_content_bytes}
use Rattle.intaglio.specs.Types.{StrContent}

-- for each text of one table the symbol by which the other has it, if it does
abbrev pub found_in : State StrContent → State StrContent → List (Option ℕ)
found_in left right =
    map (λ (text : List ℕ). first str_key right.contents (text ∷ [])) (map str_content_bytes left.contents)

-- both symbols have a text, and it is the same
abbrev pub HaveSameText : State StrContent → ℕ → State StrContent → ℕ → Type 0
HaveSameText left one right other =
    MatchOption (spelling_at str_content_bytes left one) ⊥ (λ text. spelling_at str_content_bytes right other
    ≡ Some text)
