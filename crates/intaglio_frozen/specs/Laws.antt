-- What merging and renumbering keep.
use Rattle.std.specs.Prelude.{◌≡◌, ℕ, ◌≤◌, List, ◌∷◌, ◌++◌, length, map}
use Rattle.intaglio_interner.specs.State.{Distinct}
use Rattle.intaglio_frozen.specs.Merging.{decode, missing, renumber, string_key, union, IsMap}
use Rattle.intaglio_frozen.specs.Shards.{joined, joined_map, shard, AreShardMaps}

-- renumbered codes have the strings that the codes had
abbrev pub RenumberingKeepsStrings : Type 0
RenumberingKeepsStrings = (old new : List (List ℕ)) (numbers codes : List ℕ) → IsMap old new numbers →
    length new ≤ missing
    → decode new (renumber numbers codes) ≡ decode old codes

-- a map that is renumbered is a map
abbrev pub MapsCompose : Type 0
MapsCompose = (old middle new : List (List ℕ)) (numbers later : List ℕ) → IsMap old middle numbers →
    IsMap middle new later → length new ≤ missing
    → IsMap old new (renumber later numbers)

-- only one map leads to strings of which no two are equal
abbrev pub MapsAreUnique : Type 0
MapsAreUnique = (old new : List (List ℕ)) (numbers others : List ℕ) → Distinct string_key new →
    IsMap old new numbers → IsMap old new others
    → numbers ≡ others

-- lists that are merged first, and then with others, have the union that they have at once
abbrev pub MergingNests : Type 0
MergingNests = (before nested after : List (List (List ℕ))) →
    union (before ++ union nested ∷ after) ≡ union (before ++ nested ++ after)

-- a shard of a union is the union of that shard of each list
abbrev pub ShardsMerge : Type 0
ShardsMerge = (count s : ℕ) (lists : List (List (List ℕ))) →
    shard count (union lists) s ≡ union (map (λ strings. shard count strings s) lists)

-- the maps of shards, as one map, lead from all strings of the shards to all those of the others
abbrev pub ShardMapsJoin : Type 0
ShardMapsJoin = (olds news : List (List (List ℕ))) (maps : List (List ℕ)) → AreShardMaps olds news maps
    → IsMap (joined olds) (joined news) (joined_map 0 (map length news) maps)
