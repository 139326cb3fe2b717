-- Counts of words, each at its word's symbol.
use Rattle.std.specs.Prelude.{◌≡◌, ◌≢◌, ℕ, ◌+◌, min, List, [], ◌∷◌, Option, Some, None, slice_index_or}
use Rattle.intaglio.specs.Keys.{str_key}
use Rattle.intaglio.specs.State.{first}
use Rattle.intaglio.specs.Types.{StrContent}

-- the count at a symbol, and 0 for a word without one
abbrev pub count_at : List ℕ → Option ℕ → ℕ
count_at counts None = 0
count_at counts (Some i) = slice_index_or counts i 0

-- how often a word was counted
abbrev pub count_in : List StrContent → List ℕ → List ℕ → ℕ
count_in texts counts word = count_at counts (first str_key texts (word ∷ []))

-- one more, up to the greatest u64
abbrev pub one_more : ℕ → ℕ
one_more n = min (n + 1) 18446744073709551615

-- the counts of all other words are as before
abbrev pub KeepsOthers : (List ℕ → ℕ) → List ℕ → (List ℕ → ℕ) → Type 0
KeepsOthers before word after = (other : List ℕ) → other ≢ word → after other ≡ before other
