-- Shards: a list of strings in parts, where the part of a string is known from the string.
use Rattle.std.specs.Prelude.{◌≡◌, ℕ, zero, suc, ◌+◌, ◌<◌, ◌≢◌, ◌⊎◌, ◌==◌, List, [], ◌∷◌, ◌++◌, length, map, get_or, slice_get, All, Some, ⊤}
use Rattle.std.specs.List.{filter, flat_map}
use Rattle.intaglio_frozen.specs.LookUp.{hash_under, scaled}
use Rattle.intaglio_interner.specs.State.{Distinct}
use Rattle.intaglio_frozen.specs.Merging.{missing, string_key, IsMap}
use Rattle.intaglio_frozen.specs.declared.shards.ShardsError.{ShardsError}
use Rattle.intaglio_frozen.specs.declared.shards.ShardsError.TheVariants.{Empty, Misplaced, TooMany, Memory}

-- the shard of a string, of so many: from its hash under fixed keys
unfoldable pub shard_of : ℕ → List ℕ → ℕ
shard_of count w = scaled count (hash_under 0x7368_6172_6473_2e30 0x7368_6172_6473_2e31 w)

-- the strings of a list that belong to a shard, in the list's order
abbrev pub shard : ℕ → List (List ℕ) → ℕ → List (List ℕ)
shard count strings s = filter (λ w. shard_of count w == s) strings

-- the first shards of a list
abbrev pub first_shards : ℕ → List (List ℕ) → ℕ → List (List (List ℕ))
first_shards count strings zero = []
first_shards count strings (suc s) = first_shards count strings s ++ shard count strings s ∷ []

-- all shards of a list
abbrev pub shards : ℕ → List (List ℕ) → List (List (List ℕ))
shards count strings = first_shards count strings count

-- the strings of all shards, those of one shard after those of the other
abbrev pub joined : List (List (List ℕ)) → List (List ℕ)
joined shards = flat_map (λ strings. strings) shards

-- the number of the first string of each shard, where those before the shards are n
abbrev pub starts_from : ℕ → List (List (List ℕ)) → List ℕ
starts_from n [] = []
starts_from n (strings ∷ shards) = n ∷ starts_from (n + length strings) shards

-- each string of these belongs to shard s of so many
abbrev pub BelongTo : ℕ → ℕ → List (List ℕ) → Type 0
BelongTo count s strings = (i : ℕ) (w : List ℕ) → slice_get strings i ≡ Some w → shard_of count w ≡ s

-- each string of these before n belongs to shard s of so many
abbrev pub BelongBefore : ℕ → ℕ → ℕ → List (List ℕ) → Type 0
BelongBefore n count s strings = (i : ℕ) (w : List ℕ) → i < n → slice_get strings i ≡ Some w →
    shard_of count w ≡ s

-- each string of each shard before n belongs there
abbrev pub AreShardsBefore : ℕ → List (List (List ℕ)) → Type 0
AreShardsBefore n shards = (s : ℕ) (strings : List (List ℕ)) → s < n → slice_get shards s ≡ Some strings →
    BelongTo (length shards) s strings

-- each string of each shard belongs there
abbrev pub AreShards : List (List (List ℕ)) → Type 0
AreShards shards = (s : ℕ) (strings : List (List ℕ)) → slice_get shards s ≡ Some strings →
    BelongTo (length shards) s strings

-- no two strings of one shard are equal
abbrev pub AreEachDistinct : List (List (List ℕ)) → Type 0
AreEachDistinct shards = (s : ℕ) (strings : List (List ℕ)) → slice_get shards s ≡ Some strings →
    Distinct string_key strings

-- no two strings of all shards are equal
abbrev pub AreAllDistinct : List (List (List ℕ)) → Type 0
AreAllDistinct shards = Distinct string_key (joined shards)

-- the string at i of these is the first that belongs to another shard than s
abbrev pub IsMisplaced : ℕ → ℕ → List (List ℕ) → ℕ → Type 0
IsMisplaced count s strings i = (w : List ℕ) × (slice_get strings i ≡ Some w) × (shard_of count w ≢ s)
    × BelongBefore i count s strings

-- the string at i of shard s is the first that belongs to another shard
pub record IsFirstMisplaced (shards : List (List (List ℕ))) (s i : ℕ) : Type 0 where
  pub strings : List (List ℕ)
  pub there : slice_get shards s ≡ Some strings
  pub misplaced : IsMisplaced (length shards) s strings i
  pub before : AreShardsBefore s shards

-- why lists aren't shards
abbrev pub IsShardsFault : List (List (List ℕ)) → ShardsError → Type 0
IsShardsFault shards Empty = shards ≡ []
IsShardsFault shards (Misplaced s i) = IsFirstMisplaced shards s i
IsShardsFault shards TooMany = (missing < length shards) ⊎ (missing < length (joined shards))
IsShardsFault shards Memory = ⊤

-- each string of the shards before this one stands at its number among these
abbrev pub AreNumbered : List (List ℕ) → List ℕ → List (List ℕ) → ℕ → List ℕ → Type 0
AreNumbered strings shards placed number numbers = (i : ℕ) (w : List ℕ) → slice_get strings i ≡ Some w →
    get_or shards i 0 < number
    → slice_get placed (get_or numbers i 0) ≡ Some w

-- maps of shards as one map, where each shard has so many strings and those before the first one n: the
-- numbers of a shard are counted on from the end of the shards before it
abbrev pub joined_map : ℕ → List ℕ → List (List ℕ) → List ℕ
joined_map n [] maps = []
joined_map n (count ∷ counts) [] = []
joined_map n (count ∷ counts) (numbers ∷ maps) =
    map (λ k. n + k) numbers ++ joined_map (n + count) counts maps

-- how many strings the shards have together
abbrev pub sum_of : List ℕ → ℕ
sum_of [] = 0
sum_of (count ∷ counts) = count + sum_of counts

-- the numbers of each map are those of strings, where each shard has so many
abbrev pub AreWithin : List ℕ → List (List ℕ) → Type 0
AreWithin [] [] = ⊤
AreWithin (count ∷ counts) [] = ⊤
AreWithin [] (numbers ∷ maps) = ⊥
AreWithin (count ∷ counts) (numbers ∷ maps) = All (λ k. k < count) numbers × AreWithin counts maps

-- each map leads from a shard of one dictionary to that shard of the other
abbrev pub AreShardMaps : List (List (List ℕ)) → List (List (List ℕ)) → List (List ℕ) → Type 0
AreShardMaps [] [] [] = ⊤
AreShardMaps [] [] (numbers ∷ maps) = ⊥
AreShardMaps [] (new ∷ news) maps = ⊥
AreShardMaps (old ∷ olds) [] maps = ⊥
AreShardMaps (old ∷ olds) (new ∷ news) [] = ⊥
AreShardMaps (old ∷ olds) (new ∷ news) (numbers ∷ maps) = IsMap old new numbers × AreShardMaps olds news maps
