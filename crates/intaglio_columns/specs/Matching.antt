-- Which rows of a column file have one of several strings.
use Rattle.std.specs.Prelude.{◌≡◌, ℕ, ◌<◌, Bool, true, false, List, get_or, length, slice_get, Some, Contains}
use Rattle.std.specs.List.{flat_map}
use Rattle.intaglio_lines.specs.Output.{number_line}
use Rattle.intaglio_columns.specs.Filter.{selects}
use Rattle.intaglio_columns.specs.Rows.{rows_from}
use Rattle.intaglio_columns.specs.declared.file.filter.RowFilter.{RowFilter}
use Rattle.intaglio_columns.specs.Answers.{position_in}

-- of n symbols those of these words are marked, and no others: in a whole dictionary those of all words
pub record AreMarked (n : ℕ) (strings : List (List ℕ)) (IsWhole : Type 0) (words : List (List ℕ))
    (marks : List Bool) : Type 0 where
  pub long : length marks ≡ n
  pub sound : (symbol : ℕ) → get_or marks symbol false ≡ true → (word : List ℕ) × Contains words word
      × (slice_get strings symbol ≡ Some word)
  pub whole : IsWhole → (symbol : ℕ) (word : List ℕ) → Contains words word →
      position_in strings word ≡ Some symbol → symbol < n
      → get_or marks symbol false ≡ true

-- the numbers of the selected rows, a line each
abbrev pub selected_lines : RowFilter → List ℕ → List ℕ
selected_lines filter cs = flat_map number_line (rows_from (selects filter) 0 cs)
