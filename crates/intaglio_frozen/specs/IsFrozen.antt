-- Which bytes are a frozen table.
use Rattle.std.specs.Prelude.{◌≡◌, ℕ, zero, suc, ◌+◌, ◌-◌, ◌^◌, ◌<◌, ◌≤◌, ◌==◌, cond, List, length, slice_get, Some, IsUtf8}
use Rattle.intaglio_frozen.specs.Strings.{AreEnds}
use Rattle.intaglio_hash.specs.Numbers.{u32_at, u64_at}
use Rattle.intaglio_frozen.specs.Identity.{HasId, id_in}
use Rattle.intaglio_frozen.specs.Layout.{kind, key0, key1, count, text_length, own0, own1, set0, set1, shards, shard, places, size, text_at, ends, strings, symbol_of, tag_of}
use Rattle.intaglio_frozen.specs.LookUp.{FindsAll}
use Rattle.intaglio_frozen.specs.SetId.{place_in}
use Rattle.intaglio_frozen.specs.declared.header.Header.{Header}
use Rattle.intaglio_frozen.specs.declared.kind.FrozenKind.{FrozenKind}
use Rattle.intaglio_frozen.specs.declared.kind.FrozenKind.TheVariants.{Bytes, Text}

-- the kinds: strings of any bytes are 0, texts are 1
abbrev pub text_kind : ℕ
text_kind = 1

abbrev pub number_of : FrozenKind → ℕ
number_of Bytes = 0
number_of Text = text_kind

-- what a header says
pub record Describes (bs : List ℕ) (h : Header) : Type 0 where
  pub kind : number_of h.kind ≡ kind bs
  pub key0 : h.key0 ≡ key0 bs
  pub key1 : h.key1 ≡ key1 bs
  pub count : h.count ≡ count bs
  pub text_length : h.text_length ≡ text_length bs
  pub id : h.id ≡ id_in bs
  pub place : h.place ≡ place_in bs

-- the reserved bytes of the header
pub record IsReserved (bs : List ℕ) : Type 0 where
  pub first : u64_at bs 88 ≡ 0
  pub second : u64_at bs 96 ≡ 0
  pub third : u64_at bs 104 ≡ 0
  pub fourth : u64_at bs 112 ≡ 0
  pub fifth : u64_at bs 120 ≡ 0

-- it begins with "INTAGLIO"
abbrev pub HasMagic : List ℕ → Type 0
HasMagic bs = (8 ≤ length bs) × (u64_at bs 0 ≡ 0x4f49_4c47_4154_4e49)

-- behind it stands a version, which is 2
pub record HasVersion (bs : List ℕ) : Type 0 where
  pub magic : HasMagic bs
  pub within : 12 ≤ length bs
  pub version : u32_at bs 8 ≡ 2

-- a header of version 2 whose kind is one of the two
pub record HasKind (bs : List ℕ) : Type 0 where
  pub version : HasVersion bs
  pub long : 128 ≤ length bs
  pub kind : kind bs ≤ text_kind

-- the set of a single table has the identity of this table
abbrev pub HasSet : List ℕ → Type 0
HasSet bs = shards bs ≡ 1 → (set0 bs ≡ own0 bs) × (set1 bs ≡ own1 bs)

-- a header of version 2
pub record HasHeader (bs : List ℕ) : Type 0 where
  pub kind : HasKind bs
  pub reserved : IsReserved bs
  pub few : count bs ≤ 2 ^ 31
  pub shard : shard bs < shards bs
  pub set : HasSet bs

-- a header, and as many bytes as it requires
pub record HasSections (bs : List ℕ) : Type 0 where
  pub header : HasHeader bs
  pub size : length bs ≡ size bs

-- the strings fill the text
pub record IsBlock (bs : List ℕ) : Type 0 where
  pub sections : HasSections bs
  pub ends : AreEnds 0 (length bs - text_at bs) (ends bs)

-- the symbol of a place that no string has
abbrev pub no_symbol : ℕ
no_symbol = 0xffff_ffff

-- how many of the first places have a string
abbrev pub used_below : List ℕ → ℕ → ℕ
used_below bs zero = 0
used_below bs (suc p) = used_below bs p + cond (symbol_of bs p == no_symbol) 0 1

-- as many places as strings have a symbol, and the others have the tag 0
pub record HasUnused (bs : List ℕ) : Type 0 where
  pub tags : (p : ℕ) → p < places bs → symbol_of bs p ≡ no_symbol → tag_of bs p ≡ 0
  pub used : used_below bs (places bs) ≡ count bs

-- each of these strings before n is UTF-8
abbrev pub AreTextsBefore : ℕ → List (List ℕ) → Type 0
AreTextsBefore n ws = (i : ℕ) (w : List ℕ) → i < n → slice_get ws i ≡ Some w → IsUtf8 w

-- each of these strings is UTF-8
abbrev pub AreTexts : List (List ℕ) → Type 0
AreTexts ws = (i : ℕ) (w : List ℕ) → slice_get ws i ≡ Some w → IsUtf8 w

pub record IsFrozen (bs : List ℕ) : Type 0 where
  pub block : IsBlock bs
  pub unused : HasUnused bs
  pub found : FindsAll bs
  pub texts : kind bs ≡ text_kind → AreTexts (strings bs)
  pub id : HasId bs
