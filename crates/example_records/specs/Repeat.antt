-- The first repeat in a list of texts.
use Rattle.std.specs.Prelude.{◌≢◌, ℕ, ◌<◌, List, [], length, take, Option, Some, None, slice_index_or, Contains, AllPairs}

-- no two of the texts are equal
abbrev pub AreDistinct : List (List ℕ) → Type 0
AreDistinct texts = AllPairs (λ v w. v ≢ w) texts

-- the texts before n are distinct, and the one at n is among them
pub record RepeatsAt (texts : List (List ℕ)) (n : ℕ) : Type 0 where
  pub within : n < length texts
  pub distinct : AreDistinct (take n texts)
  pub repeated : Contains (take n texts) (slice_index_or texts n [])

-- the position of the first repeat, if there is one
abbrev pub IsFirstRepeat : List (List ℕ) → Option ℕ → Type 0
IsFirstRepeat texts None = AreDistinct texts
IsFirstRepeat texts (Some n) = RepeatsAt texts n
