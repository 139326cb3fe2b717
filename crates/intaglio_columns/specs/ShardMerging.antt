-- A shard that is merged of those of several parts.
use Rattle.std.specs.Prelude.{◌≡◌, ℕ, ◌<◌, ◌≤◌, List, Some, slice_get}
use Rattle.intaglio_frozen.specs.SetId.{set_of_merge}
use Rattle.intaglio_frozen.specs.declared.kind.FrozenKind.{FrozenKind}
use Rattle.intaglio_frozen.specs.declared.set_id.Place.{Place}
use Rattle.intaglio_frozen.specs.declared.set_id.SetId.{SetId}
use Rattle.intaglio_frozen.specs.Merging.{union}
use Rattle.intaglio_frozen.specs.Shards.{BelongTo, IsMisplaced}
use Rattle.intaglio_columns.specs.Frozen.{IsUnionRefusal}
use Rattle.intaglio_columns.specs.declared.error.ShardMergeError.{ShardMergeError}
use Rattle.intaglio_columns.specs.declared.error.ShardMergeError.TheVariants.{NoShard, Misplaced, Strings}

-- the place of a shard that is merged of parts of these sets
abbrev pub merged_place : ℕ → ℕ → List SetId → Place
merged_place count number sets = record { set = set_of_merge count sets; shards = count; shard = number }

-- each string of each part belongs to this shard of so many
abbrev pub AreOwn : ℕ → ℕ → List (List (List ℕ)) → Type 0
AreOwn count number parts = (p : ℕ) (strings : List (List ℕ)) → slice_get parts p ≡ Some strings →
    BelongTo count number strings

-- each string of each part before n belongs to this shard of so many
abbrev pub AreOwnBefore : ℕ → ℕ → ℕ → List (List (List ℕ)) → Type 0
AreOwnBefore n count number parts = (p : ℕ) (strings : List (List ℕ)) → p < n →
    slice_get parts p ≡ Some strings → BelongTo count number strings

-- the string i of part p is the first that belongs to another shard
pub record IsMisplacedIn (count number : ℕ) (parts : List (List (List ℕ))) (p i : ℕ) : Type 0 where
  pub strings : List (List ℕ)
  pub there : slice_get parts p ≡ Some strings
  pub misplaced : IsMisplaced count number strings i
  pub before : AreOwnBefore p count number parts

-- why a shard wasn't merged of these parts
abbrev pub IsShardRefusal : FrozenKind → ℕ → ℕ → List (List (List ℕ)) → ShardMergeError → Type 0
IsShardRefusal kind count number parts NoShard = count ≤ number
IsShardRefusal kind count number parts (Misplaced p i) = IsMisplacedIn count number parts p i
IsShardRefusal kind count number parts (Strings refused) = IsUnionRefusal kind (union parts) refused
