-- Which bytes are a column.
use Rattle.std.specs.Prelude.{◌≡◌, ◌≢◌, ℕ, ◌+◌, ◌*◌, ◌^◌, ◌<◌, ◌≤◌, true, List, [], length}
use Rattle.intaglio_hash.specs.Numbers.{u32_at, u64_at}
use Rattle.intaglio_frozen.specs.Id.{kind_number}
use Rattle.intaglio_frozen.specs.declared.id.DictionaryId.{DictionaryId}
use Rattle.intaglio_columns.specs.Width.{bytes_of, missing}
use Rattle.intaglio_columns.specs.Layout.{kind, hash0, hash1, strings, rows, shards, width, codes, checksum, checksum_of, source_kind, source_of}
use Rattle.intaglio_columns.specs.Source.{fits}
use Rattle.intaglio_columns.specs.Codes.{AreCodes}
use Rattle.intaglio_columns.specs.Rows.{rows_of}
use Rattle.intaglio_columns.specs.declared.file.header.ColumnHeader.{ColumnHeader}

-- the letters INT, the byte 0x89, the letters COL, and a line end
abbrev pub magic : ℕ
magic = 0x0a4c_4f43_8954_4e49

-- its first four bytes
abbrev pub magic_start : ℕ
magic_start = 0x8954_4e49

-- it begins with the magic, and then has a version
abbrev pub HasMagic : List ℕ → Type 0
HasMagic bs = (12 ≤ length bs) × (u64_at bs 0 ≡ magic)

-- its version is 2
pub record HasVersion (bs : List ℕ) : Type 0 where
  pub magic : HasMagic bs
  pub version : u32_at bs 8 ≡ 2

-- a header of version 2 whose kind is one of the two
pub record HasKind (bs : List ℕ) : Type 0 where
  pub version : HasVersion bs
  pub long : 128 ≤ length bs
  pub kind : kind bs ≤ 1

-- a header of a dictionary that can be, whose codes have the least width that serves
pub record HasWidth (bs : List ℕ) : Type 0 where
  pub kind : HasKind bs
  pub few : strings bs < 2 ^ 32
  pub width : u32_at bs 48 ≡ bytes_of (width bs)

-- a header whose rows have a source that can be
pub record HasSource (bs : List ℕ) : Type 0 where
  pub width : HasWidth bs
  pub kind : source_kind bs ≤ 1
  pub fits : fits (shards bs) (source_of bs) ≡ true

-- the reserved bytes of the header
pub record IsReserved (bs : List ℕ) : Type 0 where
  pub at_92 : u32_at bs 92 ≡ 0
  pub at_96 : u64_at bs 96 ≡ 0
  pub at_104 : u64_at bs 104 ≡ 0
  pub at_112 : u64_at bs 112 ≡ 0
  pub at_120 : u64_at bs 120 ≡ 0

-- a header of version 2
pub record HasHeader (bs : List ℕ) : Type 0 where
  pub source : HasSource bs
  pub reserved : IsReserved bs

-- where the codes of a column end
abbrev pub end_of : List ℕ → ℕ
end_of bs = 128 + bytes_of (width bs) * rows bs

-- a header, and the codes behind it, and nothing else
pub record HasRows (bs : List ℕ) : Type 0 where
  pub header : HasHeader bs
  pub whole : length bs ≡ end_of bs

-- its checksum is that of its codes and of the rest of its header
pub record HasChecksum (bs : List ℕ) : Type 0 where
  pub rows : HasRows bs
  pub checksum : checksum bs ≡ checksum_of bs

-- if the rows come from a dictionary, none is missing
abbrev pub IsFull : List ℕ → Type 0
IsFull bs = (source_of bs).shards ≢ 0 → rows_of missing (codes bs) ≡ []

pub record IsColumn (bs : List ℕ) : Type 0 where
  pub checksum : HasChecksum bs
  pub codes : AreCodes (strings bs) (codes bs)
  pub full : IsFull bs

-- the header says that the dictionary is this one
pub record Describes (bs : List ℕ) (id : DictionaryId) : Type 0 where
  pub kind : kind_number id.is_text ≡ kind bs
  pub count : id.count ≡ strings bs
  pub hash0 : id.hash0 ≡ hash0 bs
  pub hash1 : id.hash1 ≡ hash1 bs

-- this is what the header says
pub record IsHeaderOf (bs : List ℕ) (header : ColumnHeader) : Type 0 where
  pub id : Describes bs header.id
  pub shards : header.shards ≡ shards bs
  pub source : header.source ≡ source_of bs
  pub width : header.width ≡ width bs
  pub rows : header.rows ≡ rows bs
