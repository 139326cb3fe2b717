-- The keys of the table that strings are given, and why strings have no frozen table, or weren't given one.
use Rattle.std.specs.Prelude.{◌≡◌, ℕ, ◌+◌, ◌-◌, ◌%◌, ◌^◌, ◌<◌, ◌≤◌, ◌⊎◌, List, length, map, sum_by, slice_get, take, Option, Some, None}
use Rattle.std.specs.Hash.{u64}
use Rattle.std.specs.Hash.DefaultHasher.{with_keys, write, finish}
use Rattle.std.specs.List.{fold}
use Rattle.std.specs.declared.hash.DefaultHasher.{DefaultHasher}
use Rattle.intaglio_frozen.specs.declared.kind.FrozenKind.{FrozenKind}
use Rattle.intaglio_frozen.specs.declared.kind.FrozenKind.TheVariants.{Text}
use Rattle.intaglio_frozen.specs.IsFrozen.{AreTexts, IsFrozen, number_of}
use Rattle.intaglio_frozen.specs.Layout.{key0, key1, kind as kind_of, strings}
use Rattle.intaglio_frozen.specs.LookUp.{hash_under}
use Rattle.intaglio_frozen.specs.Stuck.{IsStuck}
use Rattle.intaglio_frozen.specs.Fault.{IsNoText}
use Rattle.intaglio_frozen.specs.declared.error.FreezeError.{FreezeError}
use Rattle.intaglio_frozen.specs.declared.error.FreezeError.TheVariants.{TooMany, TooLong, Equal, NotUtf8, NoPlaces, Memory}

-- these bytes are a frozen table of this kind, of these strings
pub record IsTableOf (wanted : FrozenKind) (ws : List (List ℕ)) (bs : List ℕ) : Type 0 where
  pub frozen : IsFrozen bs
  pub strings : strings bs ≡ ws
  pub kind : kind_of bs ≡ number_of wanted

-- the first key of a table is k0 or one of the seven after it, modulo 2^64, and the second is k1
pub record HasKeys (k0 k1 : ℕ) (bs : List ℕ) : Type 0 where
  pub first : (key0 bs + (2 ^ 64 - k0)) % 2 ^ 64 < 8
  pub second : key1 bs ≡ k1

-- the hashes of all strings under two keys, in their order
abbrev pub hashes_under : ℕ → ℕ → List (List ℕ) → List ℕ
hashes_under k0 k1 ws = map (hash_under k0 k1) ws

-- under the n-th pair of keys from k0 and k1 on, a group of strings has no places
abbrev pub LacksPlaces : List (List ℕ) → ℕ → ℕ → ℕ → Type 0
LacksPlaces ws k0 k1 n = IsStuck (hashes_under ((k0 + n) % 2 ^ 64) k1 ws)

-- this is so under each of eight pairs of keys from k0 and k1 on
abbrev pub LackAllPlaces : List (List ℕ) → ℕ → ℕ → Type 0
LackAllPlaces ws k0 k1 = (n : ℕ) → n < 8 → LacksPlaces ws k0 k1 n

-- this is so under each pair before that of these bytes
abbrev pub LackEarlierPlaces : List (List ℕ) → ℕ → ℕ → List ℕ → Type 0
LackEarlierPlaces ws k0 k1 bs = (n : ℕ) → n < (key0 bs + (2 ^ 64 - k0)) % 2 ^ 64 → LacksPlaces ws k0 k1 n

-- a hasher after a string: its length, in eight bytes, and its bytes
abbrev pub after_string : DefaultHasher → List ℕ → DefaultHasher
after_string h w = write (fold write h (u64 (length w))) w

-- the hash of all strings under two keys
unfoldable pub hash_all : ℕ → ℕ → List (List ℕ) → ℕ
hash_all k0 k1 ws = finish (fold after_string (with_keys k0 k1) ws)

-- the keys that are drawn from strings: their hash under 0 and 0, and that under the first key and 0
abbrev pub drawn_key0 : List (List ℕ) → ℕ
drawn_key0 ws = hash_all 0 0 ws

abbrev pub drawn_key1 : List (List ℕ) → ℕ
drawn_key1 ws = hash_all (drawn_key0 ws) 0 ws

-- the keys of a table of these strings, if none are given: 0 and 0, or those that are drawn from the strings,
-- or the next ones
abbrev pub HasDefaultKeys : List (List ℕ) → List ℕ → Type 0
HasDefaultKeys ws bs = HasKeys 0 0 bs ⊎ HasKeys (drawn_key0 ws) (drawn_key1 ws) bs

-- a group of strings has no places under 0 and 0, under the drawn keys, and under the seven pairs after either
abbrev pub LackDefaultPlaces : List (List ℕ) → Type 0
LackDefaultPlaces ws = LackAllPlaces ws 0 0 × LackAllPlaces ws (drawn_key0 ws) (drawn_key1 ws)

-- the keys of these bytes are the first of all those that have places
abbrev pub HaveFirstPlaces : List (List ℕ) → List ℕ → Type 0
HaveFirstPlaces ws bs =
    (HasKeys 0 0 bs × LackEarlierPlaces ws 0 0 bs)
    ⊎ (LackAllPlaces ws 0 0 × HasKeys (drawn_key0 ws) (drawn_key1 ws) bs
    × LackEarlierPlaces ws (drawn_key0 ws) (drawn_key1 ws) bs)

-- the keys of these bytes are those that were given, or the default ones if none were
abbrev pub HasKeysFor : Option (ℕ × ℕ) → List (List ℕ) → List ℕ → Type 0
HasKeysFor (Some keys) ws bs = HasKeys keys.0 keys.1 bs
HasKeysFor None ws bs = HasDefaultKeys ws bs

-- they are the first of those that are then tried and have places
abbrev pub HasPassedFor : Option (ℕ × ℕ) → List (List ℕ) → List ℕ → Type 0
HasPassedFor (Some keys) ws bs = LackEarlierPlaces ws keys.0 keys.1 bs
HasPassedFor None ws bs = HaveFirstPlaces ws bs

-- none of those that are then tried has places
abbrev pub LackPlacesFor : Option (ℕ × ℕ) → List (List ℕ) → Type 0
LackPlacesFor (Some keys) ws = LackAllPlaces ws keys.0 keys.1
LackPlacesFor None ws = LackDefaultPlaces ws

-- the strings at i and at j, which is greater, are equal
abbrev pub AreEqual : List (List ℕ) → ℕ → ℕ → Type 0
AreEqual ws i j = (i < j) × (w : List ℕ) × (slice_get ws i ≡ Some w) × (slice_get ws j ≡ Some w)

-- no string is equal to a later one
abbrev pub HasNoEqual : List (List ℕ) → Type 0
HasNoEqual ws = (i j : ℕ) → ¬ AreEqual ws i j

-- string j is the first one that is equal to an earlier one, and string i is that one
abbrev pub IsFirstEqual : List (List ℕ) → ℕ → ℕ → Type 0
IsFirstEqual ws i j = AreEqual ws i j × HasNoEqual (take j ws)

-- a table of this kind can have the strings, as far as each by itself and their number and lengths go
pub record AreAllowed (kind : FrozenKind) (ws : List (List ℕ)) : Type 0 where
  pub few : length ws ≤ 2 ^ 31
  pub short : sum_by length ws < 2 ^ 32
  pub texts : kind ≡ Text → AreTexts ws

-- when each error is returned: the first four for strings that no frozen table of the kind has, the others
-- for strings without these faults (for `Memory` two may be equal, since memory is needed to find that)
abbrev pub IsRefusal : FrozenKind → List (List ℕ) → FreezeError → Type 0
IsRefusal kind ws TooMany = 2 ^ 31 < length ws
IsRefusal kind ws TooLong = 2 ^ 32 ≤ sum_by length ws
IsRefusal kind ws (Equal i j) = IsFirstEqual ws i j
IsRefusal kind ws (NotUtf8 i) = (kind ≡ Text) × IsNoText ws i
IsRefusal kind ws NoPlaces = AreAllowed kind ws × HasNoEqual ws
IsRefusal kind ws Memory = AreAllowed kind ws
