-- The bytes of a column of given codes, and why codes weren't made one.
use Rattle.std.specs.Prelude.{◌≢◌, ℕ, ◌%◌, ◌^◌, ◌<◌, ◌≤◌, List, [], ◌∷◌, ◌++◌, drop, length, take, false}
use Rattle.std.specs.List.{flat_map}
use Rattle.std.specs.Int.{w16, w32, w64, to_le_bytes}
use Rattle.intaglio_frozen.specs.Id.{kind_number}
use Rattle.intaglio_frozen.specs.declared.id.DictionaryId.{DictionaryId}
use Rattle.intaglio_columns.specs.Width.{bytes_of, width_for}
use Rattle.intaglio_columns.specs.Layout.{checksum_of, zeros}
use Rattle.intaglio_columns.specs.IsColumn.{magic}
use Rattle.intaglio_columns.specs.Fault.{HasGap, HasNoString}
use Rattle.intaglio_columns.specs.declared.file.header.ColumnHeader.{ColumnHeader}
use Rattle.intaglio_columns.specs.declared.file.source.RowSource.{RowSource}
use Rattle.intaglio_columns.specs.declared.file.width.Width.{Width}
use Rattle.intaglio_columns.specs.declared.file.width.Width.TheVariants.{One, Two, Four}
use Rattle.intaglio_columns.specs.declared.file.error.ColumnWriteError.{ColumnWriteError}
use Rattle.intaglio_columns.specs.declared.file.error.ColumnWriteError.TheVariants.{TooMany, NoString, Missing, Memory}

-- the zeros at the end of the header
abbrev pub reserved_bytes : List ℕ
reserved_bytes = 0 ∷ 0 ∷ 0 ∷ 0 ∷ zeros ++ zeros ++ zeros ++ zeros

-- where the rows come from
abbrev pub source_bytes : RowSource → List ℕ
source_bytes s = to_le_bytes w32 s.shards ++ to_le_bytes w32 (kind_number s.is_text)
    ++ to_le_bytes w64 s.hash0 ++ to_le_bytes w64 s.hash1 ++ to_le_bytes w32 s.shard

-- the header before its checksum
abbrev pub start_of : ColumnHeader → List ℕ
start_of h =
    to_le_bytes w64 magic ++ to_le_bytes w32 2 ++ to_le_bytes w32 (kind_number h.id.is_text)
    ++ to_le_bytes w64 h.id.hash0 ++ to_le_bytes w64 h.id.hash1 ++ to_le_bytes w64 h.id.count
    ++ to_le_bytes w64 h.rows ++ to_le_bytes w32 (bytes_of h.width) ++ to_le_bytes w32 h.shards

-- the header of a column, with zeros in place of the checksum
abbrev pub header_of : ColumnHeader → List ℕ
header_of h = start_of h ++ zeros ++ source_bytes h.source ++ reserved_bytes

-- the same bytes with their checksum
abbrev pub sealed : List ℕ → List ℕ
sealed bs = take 56 bs ++ to_le_bytes w64 (checksum_of bs) ++ drop 64 bs

-- a code in the bytes of a width
abbrev pub code_bytes : Width → ℕ → List ℕ
code_bytes One code = code % 2 ^ 8 ∷ []
code_bytes Two code = to_le_bytes w16 (code % 2 ^ 16)
code_bytes Four code = to_le_bytes w32 code

-- the bytes of a column with this header
abbrev pub file_of : ColumnHeader → List ℕ → List ℕ
file_of h cs = sealed (header_of h ++ flat_map (code_bytes h.width) cs)

-- the header of the column of codes
abbrev pub header_for : DictionaryId → ℕ → RowSource → List ℕ → ColumnHeader
header_for id shards source cs = record {
  id = id;
  shards = shards;
  source = source;
  width = width_for id.count;
  rows = length cs;
}

-- the source of lines
abbrev pub lines : RowSource
lines = record { shards = 0; is_text = false; hash0 = 0; hash1 = 0; shard = 0 }

-- the bytes of a column of lines under a dictionary in one file
abbrev pub column_of : DictionaryId → List ℕ → List ℕ
column_of id cs = file_of (header_for id 1 lines cs) cs

-- the numbers of a header have as many bytes as it gives them
pub record HasRanges (h : ColumnHeader) : Type 0 where
  pub hash0 : h.id.hash0 < 2 ^ 64
  pub hash1 : h.id.hash1 < 2 ^ 64
  pub rows : h.rows < 2 ^ 64
  pub shards : h.shards < 2 ^ 32
  pub from_shards : h.source.shards < 2 ^ 32
  pub from_hash0 : h.source.hash0 < 2 ^ 64
  pub from_hash1 : h.source.hash1 < 2 ^ 64
  pub from_shard : h.source.shard < 2 ^ 32

-- when each error is returned, of codes of so many strings, if the source of the rows has so many shards
abbrev pub IsRefusal : ℕ → ℕ → List ℕ → ColumnWriteError → Type 0
IsRefusal shards n cs TooMany = 2 ^ 32 ≤ n
IsRefusal shards n cs (NoString row) = HasNoString n cs row
IsRefusal shards n cs (Missing row) = (shards ≢ 0) × HasGap cs row
IsRefusal shards n cs Memory = Unit {0}
