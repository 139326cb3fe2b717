-- What a list of codes says of its rows.
use Rattle.std.specs.Prelude.{◌≡◌, ℕ, ◌+◌, ◌<◌, ◌≤◌, ◌==◌, cond, true, drop, MatchOption, Option, Bool, List, [], ◌∷◌, count_by, get_or, length, sum}
use Rattle.intaglio_columns.specs.Width.{missing}
use Rattle.intaglio_columns.specs.Codes.{AreCodes}

-- the rows whose codes pass a test, where the first row has this number
abbrev pub rows_from : (ℕ → Bool) → ℕ → List ℕ → List ℕ
rows_from p row [] = []
rows_from p row (code ∷ cs) = cond (p code) (row ∷ rows_from p (row + 1) cs) (rows_from p (row + 1) cs)

-- the rows with this code, in ascending order
abbrev pub rows_of : ℕ → List ℕ → List ℕ
rows_of code cs = rows_from (λ c. c == code) 0 cs

-- the rows from this one on whose codes pass a test
abbrev pub rows_past : (ℕ → Bool) → ℕ → List ℕ → List ℕ
rows_past p from cs = rows_from p from (drop from cs)

-- from this row on, another is the first that passes
pub record IsFirstRow (p : ℕ → Bool) (from : ℕ) (cs : List ℕ) (row : ℕ) : Type 0 where
  pub first : rows_past p from cs ≡ row ∷ rows_past p (row + 1) cs
  pub passes : p (get_or cs row 0) ≡ true
  pub order : from ≤ row
  pub within : row < length cs

-- the first row from this one on that passes, if there is one
abbrev pub IsNextRow : (ℕ → Bool) → ℕ → List ℕ → Option ℕ → Type 0
IsNextRow p from cs found = MatchOption found (rows_past p from cs ≡ []) (IsFirstRow p from cs)

-- the first that passes from one row on and before another, if there is one
abbrev pub IsFirstAmong : (ℕ → Bool) → ℕ → ℕ → List ℕ → Option ℕ → Type 0
IsFirstAmong p from end cs found =
    MatchOption found (rows_past p from cs ≡ rows_past p end cs) (IsFirstRow p from cs)

-- so many rows pass from one on and before another
pub record CountsAmong (p : ℕ → Bool) (from end : ℕ) (cs : List ℕ) (many : ℕ) : Type 0 where
  pub count : length (rows_past p from cs) ≡ many + length (rows_past p end cs)
  pub few : from + many ≤ end
  pub none : many ≡ 0 → rows_past p from cs ≡ rows_past p end cs

-- how many rows have this code
abbrev pub count_of : ℕ → List ℕ → ℕ
count_of code cs = count_by (λ c. c == code) cs

-- a list over the places of another, as far as those go, and what was in the others
abbrev pub overlaid : List ℕ → List ℕ → List ℕ
overlaid [] places = places
overlaid (n ∷ ns) [] = []
overlaid (n ∷ ns) (place ∷ places) = n ∷ overlaid ns places

-- so often each of n strings occurs in codes, and the missing code
pub record AreCounts (n : ℕ) (cs counts : List ℕ) (gone : ℕ) : Type 0 where
  pub strings : length counts ≡ n
  pub each : (symbol : ℕ) → symbol < n → get_or counts symbol 0 ≡ count_of symbol cs
  pub missing : gone ≡ count_of missing cs
  pub all : AreCodes n cs → sum counts + gone ≡ length cs
