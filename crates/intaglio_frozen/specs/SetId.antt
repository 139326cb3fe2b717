-- What a set of shards is, and which of its shards a frozen table is.
use Rattle.std.specs.Prelude.{◌≡◌, ◌≢◌, ℕ, List, [], ◌∷◌, ◌++◌, length}
use Rattle.std.specs.Int.{w64, to_le_bytes}
use Rattle.std.specs.List.{flat_map}
use Rattle.std.specs.Hash.DefaultHasher.{with_keys, write, finish}
use Rattle.intaglio_frozen.specs.Id.{kind_number}
use Rattle.intaglio_frozen.specs.Layout.{set0, set1, shards, shard}
use Rattle.intaglio_frozen.specs.declared.id.DictionaryId.{DictionaryId}
use Rattle.intaglio_frozen.specs.declared.set_id.SetId.{SetId}
use Rattle.intaglio_frozen.specs.declared.set_id.Place.{Place}

-- the hashes of bytes under this key and 0, and under it and 1
abbrev pub hashed_under : ℕ → List ℕ → SetId
hashed_under key0 bytes = record {
  hash0 = finish (write (with_keys key0 0) bytes);
  hash1 = finish (write (with_keys key0 1) bytes);
}

-- a number, in eight bytes
abbrev pub number_bytes : ℕ → List ℕ
number_bytes n = to_le_bytes w64 n

-- a shard: its number of strings, and its identity
abbrev pub shard_bytes : DictionaryId → List ℕ
shard_bytes id = number_bytes id.count ++ (number_bytes id.hash0 ++ number_bytes id.hash1)

-- the kind of the first shard
abbrev pub first_kind : List DictionaryId → ℕ
first_kind [] = 0
first_kind (id ∷ ids) = kind_number id.is_text

-- shards that were made together: their number, their kind, and each of them
abbrev pub shards_bytes : List DictionaryId → List ℕ
shards_bytes ids =
    (number_bytes (length ids) ++ number_bytes (first_kind ids)) ++ flat_map shard_bytes ids

-- the set of shards that were made together: for one it is what this one is
abbrev pub set_of_shards : List DictionaryId → SetId
set_of_shards [] = hashed_under 2 (shards_bytes [])
set_of_shards (id ∷ []) = record { hash0 = id.hash0; hash1 = id.hash1 }
set_of_shards (first ∷ second ∷ ids) = hashed_under 2 (shards_bytes (first ∷ second ∷ ids))

-- a set
abbrev pub set_bytes : SetId → List ℕ
set_bytes s = number_bytes s.hash0 ++ number_bytes s.hash1

-- what is merged: the number of shards of each part, the number of parts, and the set of each part in order
abbrev pub merge_bytes : ℕ → List SetId → List ℕ
merge_bytes many sets = (number_bytes many ++ number_bytes (length sets)) ++ flat_map set_bytes sets

-- the set of so many shards that are merged from parts
abbrev pub set_of_merge : ℕ → List SetId → SetId
set_of_merge many sets = hashed_under 3 (merge_bytes many sets)

-- the place that a header says
abbrev pub place_in : List ℕ → Place
place_in bs = record {
  set = record { hash0 = set0 bs; hash1 = set1 bs };
  shards = shards bs;
  shard = shard bs;
}

-- a frozen table is at this place; if it is the only one of its set, the set isn't that of the place
pub record IsAt (place : Place) (bs : List ℕ) : Type 0 where
  pub shards : shards bs ≡ place.shards
  pub shard : shard bs ≡ place.shard
  pub set : place.shards ≢ 1 → (place_in bs).set ≡ place.set
