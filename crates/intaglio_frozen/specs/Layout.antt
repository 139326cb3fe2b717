-- The header and the sections of a frozen table, in its bytes.
use Rattle.std.specs.Prelude.{ℕ, zero, suc, ◌+◌, ◌*◌, ◌/◌, List, [], ◌∷◌, drop, slice_index}
use Rattle.intaglio_hash.specs.Numbers.{u16_at, u32_at, u64_at}
use Rattle.intaglio_frozen.specs.Strings.{strings_from}

-- the header: the kind of the strings, the two keys of the hasher, how many strings there are, and how many
-- bytes they have
abbrev pub kind : List ℕ → ℕ
kind bs = u32_at bs 12

abbrev pub key0 : List ℕ → ℕ
key0 bs = u64_at bs 16

abbrev pub key1 : List ℕ → ℕ
key1 bs = u64_at bs 24

abbrev pub count : List ℕ → ℕ
count bs = u64_at bs 32

abbrev pub text_length : List ℕ → ℕ
text_length bs = u64_at bs 40

-- the hashes that are the identity of the strings, and those that are the identity of the set
abbrev pub own0 : List ℕ → ℕ
own0 bs = u64_at bs 48

abbrev pub own1 : List ℕ → ℕ
own1 bs = u64_at bs 56

abbrev pub set0 : List ℕ → ℕ
set0 bs = u64_at bs 64

abbrev pub set1 : List ℕ → ℕ
set1 bs = u64_at bs 72

-- how many shards the set has, and which of them this is
abbrev pub shards : List ℕ → ℕ
shards bs = u32_at bs 80

abbrev pub shard : List ℕ → ℕ
shard bs = u32_at bs 84

-- for n strings there are this many places, and groups of hashes
abbrev pub places_for : ℕ → ℕ
places_for n = n + n / 19 + 2

abbrev pub groups_for : ℕ → ℕ
groups_for n = n / 3 + 1

abbrev pub places : List ℕ → ℕ
places bs = places_for (count bs)

abbrev pub groups : List ℕ → ℕ
groups bs = groups_for (count bs)

-- where the sections begin: the symbols of the places (four bytes each), at 128; the ends of the strings
-- (four), the pilots of the groups (two), the tags of the places (one), and the text
abbrev pub ends_at : List ℕ → ℕ
ends_at bs = 128 + 4 * places bs

abbrev pub pilots_at : List ℕ → ℕ
pilots_at bs = ends_at bs + 4 * count bs

abbrev pub tags_at : List ℕ → ℕ
tags_at bs = pilots_at bs + 2 * groups bs

abbrev pub text_at : List ℕ → ℕ
text_at bs = tags_at bs + places bs

-- how many bytes the header and the sections have
abbrev pub size : List ℕ → ℕ
size bs = text_at bs + text_length bs

-- the symbol and the tag of a place, and the pilot of a group
abbrev pub symbol_of : List ℕ → ℕ → ℕ
symbol_of bs p = u32_at bs (128 + 4 * p)

abbrev pub tag_of : List ℕ → ℕ → ℕ
tag_of bs p = slice_index bs (tags_at bs + p)

abbrev pub pilot_of : List ℕ → ℕ → ℕ
pilot_of bs g = u16_at bs (pilots_at bs + 2 * g)

-- n numbers of four bytes
abbrev pub numbers_at : List ℕ → ℕ → ℕ → List ℕ
numbers_at bs at zero = []
numbers_at bs at (suc n) = u32_at bs at ∷ numbers_at bs (at + 4) n

abbrev pub ends : List ℕ → List ℕ
ends bs = numbers_at bs (ends_at bs) (count bs)

-- the strings, in the order of their symbols
unfoldable pub strings : List ℕ → List (List ℕ)
strings bs = strings_from 0 (drop (text_at bs) bs) (ends bs)
