-- How often each string of a column file occurs, as it is written.
use Rattle.std.specs.Prelude.{◌≡◌, ℕ, ◌-◌, ◌^◌, ◌<◌, ◌==◌, cond, not, Bool, true, false, List, [], ◌∷◌, ◌++◌, map, get_or, slice_get, Contains, Option, None}
use Rattle.std.specs.List.{flat_map}
use Rattle.std.specs.List.Sorted.{IsPermutation, IsSorted}
use Rattle.std.specs.Ordering.{nat_cmp, ordering_then}
use Rattle.std.specs.Fmt.{decimal}
use Rattle.intaglio_lines.specs.Output.{number_line, spelling_line}
use Rattle.intaglio_lines.specs.Puts.{Writes}
use Rattle.intaglio_lines.specs.StreamError.{IsWritingError}
use Rattle.intaglio_columns.specs.Rows.{AreCounts, count_of, rows_from}
use Rattle.intaglio_columns.specs.declared.error.DictionaryError.{DictionaryError}
use Rattle.intaglio_columns.specs.declared.error.DictionaryError.TheVariants.{NoString, Stream}

-- the symbols whose strings occur, in ascending order
abbrev pub occurring : List ℕ → List ℕ
occurring counts = rows_from (λ n. not (n == 0)) 0 counts

-- the rank of a symbol is the lesser the more often its string occurs, and of equal counts the
-- lesser that of the lesser symbol
abbrev pub rank_of : List ℕ → ℕ → ℕ × ℕ
rank_of counts symbol = (2 ^ 64 - 1 - get_or counts symbol 0, symbol)

abbrev pub ranks : List ℕ → List (ℕ × ℕ)
ranks counts = map (rank_of counts) (occurring counts)

-- these are the ranks of the symbols whose strings occur: in the order of the symbols, or by their counts
pub record AreInOrder (by_symbol : Bool) (counts : List ℕ) (ordered : List (ℕ × ℕ)) : Type 0 where
  pub all : IsPermutation (ranks counts) ordered
  pub ascending : by_symbol ≡ true → ordered ≡ ranks counts
  pub frequent : by_symbol ≡ false →
      IsSorted (λ a b. ordering_then (nat_cmp a.0 b.0) (nat_cmp a.1 b.1)) ordered

-- a count and a tab, and the string
abbrev pub count_line : ℕ → List ℕ → List ℕ
count_line n string = decimal n ++ (9 ∷ spelling_line string)

-- the count of a symbol, and its string
abbrev pub rank_line : List (List ℕ) → List ℕ → ℕ × ℕ → List ℕ
rank_line strings counts rank = count_line (get_or counts rank.1 0) (get_or strings rank.1 [])

-- the count of the missing rows, if there are any
abbrev pub missing_line : ℕ → List ℕ
missing_line gone = cond (gone == 0) [] (number_line gone)

-- the counts of codes under n strings are written: those of the strings that occur,
-- and at last that of the missing rows
pub record WritesCounts {W : Type 0} (by_symbol : Bool) (n : ℕ) (strings : List (List ℕ)) (cs : List ℕ)
    (contents : W → Option (List ℕ))
    (old new : W) : Type 0 where
  pub counts : List ℕ
  pub gone : ℕ
  pub ordered : List (ℕ × ℕ)
  pub counted : AreCounts n cs counts gone
  pub order : AreInOrder by_symbol counts ordered
  pub written : Writes contents old new (flat_map (rank_line strings counts) ordered ++ missing_line gone)

-- when each error is returned, of ranks: one has no string
abbrev pub IsRankFault : List (List ℕ) → Type 0 → List (ℕ × ℕ) → DictionaryError → Type 0
IsRankFault strings IsWhole ordered (NoString symbol) =
    (rank : ℕ × ℕ) × Contains ordered rank × (rank.1 ≡ symbol) × (IsWhole → slice_get strings symbol ≡ None)
IsRankFault strings IsWhole ordered (Stream failure) = IsWritingError failure

-- and of codes under n strings: one of them occurs and isn't there
abbrev pub IsCountsFault : List (List ℕ) → Type 0 → ℕ → List ℕ → DictionaryError → Type 0
IsCountsFault strings IsWhole n cs (NoString symbol) =
    (symbol < n) × (0 < count_of symbol cs) × (IsWhole → slice_get strings symbol ≡ None)
IsCountsFault strings IsWhole n cs (Stream failure) = IsWritingError failure
