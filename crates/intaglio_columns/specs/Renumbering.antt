-- A column by the maps of a merge.
use Rattle.std.specs.Prelude.{◌≡◌, ◌≢◌, ⊤, ℕ, ◌<◌, ◌≤◌, ◌==◌, cond, nat_lt, Bool, List, [], All, get_or, length, map, slice_get, Option, Some}
use Rattle.std.specs.List.{flat_map}
use Rattle.intaglio_frozen.specs.Merging.{missing}
use Rattle.intaglio_frozen.specs.Shards.{AreShardMaps, joined, joined_map, sum_of}
use Rattle.intaglio_columns.specs.Layout.{codes, hash0, hash1, kind, rows, shards, source_of, strings}
use Rattle.intaglio_columns.specs.declared.file.source.RowSource.{RowSource}
use Rattle.intaglio_columns.specs.RowLines.{code_line}
use Rattle.intaglio_columns.specs.declared.error.RenumberError.{RenumberError}
use Rattle.intaglio_columns.specs.declared.error.RenumberError.TheVariants.{Memory, OtherCount, OtherLength, OtherSource, OtherTarget, TooMany}

-- whether a column is the map of one of several shards
abbrev pub is_shard_map : List ℕ → Bool
is_shard_map column = nat_lt 1 (source_of column).shards

-- how many maps it takes: that of the same shard, or one for each shard of its dictionary
abbrev pub maps_for : List ℕ → ℕ
maps_for column = cond (is_shard_map column) 1 (shards column)

-- from where map i has to lead
abbrev pub source_for : List ℕ → ℕ → RowSource
source_for column i = record {
  shards = shards column;
  is_text = kind column == 1;
  hash0 = hash0 column;
  hash1 = hash1 column;
  shard = cond (is_shard_map column) (source_of column).shard i;
}

-- each of these maps leads from there
abbrev pub AreFrom : List ℕ → List (List ℕ) → Type 0
AreFrom column maps = (i : ℕ) (m : List ℕ) → slice_get maps i ≡ Some m → source_of m ≡ source_for column i

-- two columns lead to one dictionary, or to a shard of it each
pub record LeadAlike (one other : List ℕ) : Type 0 where
  pub kind : kind one ≡ kind other
  pub hash0 : hash0 one ≡ hash0 other
  pub hash1 : hash1 one ≡ hash1 other
  pub shards : shards one ≡ shards other

-- maps lead from all of a column's dictionary, and to one that can be
pub record Meet (column : List ℕ) (maps : List (List ℕ)) : Type 0 where
  pub many : length maps ≡ maps_for column
  pub from : AreFrom column maps
  pub to : All (LeadAlike (get_or maps 0 [])) maps
  pub rows : sum_of (map rows maps) ≡ strings column
  pub few : sum_of (map strings maps) ≤ missing

-- their codes, as those of one map
abbrev pub joined_codes : List (List ℕ) → List ℕ
joined_codes maps = joined_map 0 (map strings maps) (map codes maps)

-- by maps from the shards of a dictionary to those of another, codes keep their lines
abbrev pub KeepsLines : List (List ℕ) → List ℕ → List ℕ → Type 0
KeepsLines maps cs renumbered = (olds news : List (List (List ℕ))) (text : Option (List ℕ)) →
    AreShardMaps olds news (map codes maps) → map length news ≡ map strings maps
    → flat_map (code_line (joined news) text) renumbered ≡ flat_map (code_line (joined olds) text) cs

-- when each error is returned
abbrev pub IsRenumberingRefusal : List ℕ → List (List ℕ) → RenumberError → Type 0
IsRenumberingRefusal column maps OtherCount = length maps ≢ maps_for column
IsRenumberingRefusal column maps (OtherSource i) =
    (m : List ℕ) × (slice_get maps i ≡ Some m) × (source_of m ≢ source_for column i)
IsRenumberingRefusal column maps (OtherTarget i) =
    (m : List ℕ) × (slice_get maps i ≡ Some m) × ¬ LeadAlike (get_or maps 0 []) m
IsRenumberingRefusal column maps OtherLength = sum_of (map rows maps) ≢ strings column
IsRenumberingRefusal column maps TooMany = missing < sum_of (map strings maps)
IsRenumberingRefusal column maps Memory = ⊤
