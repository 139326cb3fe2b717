-- What a look-up finds in the bytes of a frozen table. There is one place for each string.
use Rattle.std.specs.Prelude.{◌≡◌, ℕ, ◌*◌, ◌/◌, ◌%◌, ◌^◌, ◌==◌, cond, List, slice_get, Option, Some, None, MatchOption, bit_xor}
use Rattle.std.specs.Str.{bytes_eq}
use Rattle.std.specs.Hash.DefaultHasher.{with_keys, write, finish}
use Rattle.intaglio_frozen.specs.Layout.{key0, key1, places, groups, symbol_of, tag_of, pilot_of, strings}

-- the hash of a string under two keys: SipHash-1-3 of its bytes
abbrev pub hash_under : ℕ → ℕ → List ℕ → ℕ
hash_under k0 k1 w = finish (write (with_keys k0 k1) w)

-- the same under the keys of a table
unfoldable pub hash : List ℕ → List ℕ → ℕ
hash bs w = hash_under (key0 bs) (key1 bs) w

-- a number below n, from the upper half of a hash
abbrev pub scaled : ℕ → ℕ → ℕ
scaled n h = h / 2 ^ 32 * n / 2 ^ 32

-- a hash, changed by a pilot
unfoldable pub mixed : ℕ → ℕ → ℕ
mixed h pilot = (bit_xor h ((pilot * 0x9e37_79b9_7f4a_7c15) % 2 ^ 64) * 0xd6e8_feb8_6659_fd93) % 2 ^ 64

-- the place of a hash
unfoldable pub place : List ℕ → ℕ → ℕ
place bs h = scaled (places bs) (mixed h (pilot_of bs (scaled (groups bs) h)))

-- the symbol s, if its string is the sought one
abbrev pub if_same : Option (List ℕ) → ℕ → List ℕ → Option ℕ
if_same None s w = None
if_same (Some t) s w = cond (bytes_eq t w) (Some s) None

-- the symbol of a place, if the place has this tag and the symbol has this string
abbrev pub find_at : List ℕ → ℕ → ℕ → List ℕ → Option ℕ
find_at bs p tag w =
    cond (tag_of bs p == tag) (if_same (slice_get (strings bs) (symbol_of bs p)) (symbol_of bs p) w) None

-- what a look-up of a string finds
unfoldable pub find : List ℕ → List ℕ → Option ℕ
find bs w = find_at bs (place bs (hash bs w)) (hash bs w % 256) w

-- this is the only symbol that a look-up of a string may find, or none if it finds none
abbrev pub IsCandidate : List ℕ → List ℕ → Option ℕ → Type 0
IsCandidate bs w found =
    MatchOption found (find bs w ≡ None) (λ s. find bs w ≡ if_same (slice_get (strings bs) s) s w)

-- each string is found at its position
abbrev pub FindsAll : List ℕ → Type 0
FindsAll bs = (i : ℕ) (w : List ℕ) → slice_get (strings bs) i ≡ Some w → find bs w ≡ Some i
