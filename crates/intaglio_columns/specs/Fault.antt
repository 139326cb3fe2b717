-- What is wrong with bytes that are no column.
use Rattle.std.specs.Prelude.{◌≡◌, ◌≢◌, ℕ, ◌^◌, ◌<◌, ◌≤◌, List, length, slice_get, Some, ◌==◌}
use Rattle.intaglio_hash.specs.Numbers.{u32_at}
use Rattle.intaglio_columns.specs.Width.{bytes_of, missing}
use Rattle.intaglio_columns.specs.Layout.{kind, strings, width, codes, checksum, checksum_of, source_of}
use Rattle.intaglio_columns.specs.Codes.{AreCodes, AreCodesBefore, IsCode}
use Rattle.intaglio_columns.specs.Rows.{IsFirstRow}
use Rattle.intaglio_columns.specs.IsColumn.{HasMagic, HasVersion, HasKind, HasWidth, HasSource, HasHeader, HasRows, HasChecksum, IsReserved, end_of}
use Rattle.intaglio_columns.specs.declared.file.error.ColumnError.{ColumnError}
use Rattle.intaglio_columns.specs.declared.file.error.ColumnError.TheVariants.{Magic, Header, OldVersion, Version, Kind, TooMany, Width, Source, Reserved, Truncated, TooLong, Damaged, NoString, Missing}

-- this row is the first whose code is that of none of n strings, nor the missing one
abbrev pub HasNoString : ℕ → List ℕ → ℕ → Type 0
HasNoString n cs row = (code : ℕ) × (slice_get cs row ≡ Some code) × AreCodesBefore row n cs × ¬ IsCode n code

-- this row is the first that is missing
abbrev pub HasGap : List ℕ → ℕ → Type 0
HasGap cs row = IsFirstRow (λ code. code == missing) 0 cs row

-- the bytes have this fault, and what is read before it is right
abbrev pub IsFault : List ℕ → ColumnError → Type 0
IsFault bs Magic = ¬ HasMagic bs
IsFault bs OldVersion = HasMagic bs × (u32_at bs 8 ≡ 1)
IsFault bs Version = HasMagic bs × (u32_at bs 8 ≢ 1) × (u32_at bs 8 ≢ 2)
IsFault bs Header = HasVersion bs × (length bs < 128)
IsFault bs Kind = HasVersion bs × (128 ≤ length bs) × (1 < kind bs)
IsFault bs TooMany = HasKind bs × (2 ^ 32 ≤ strings bs)
IsFault bs Width = HasKind bs × (strings bs < 2 ^ 32) × (u32_at bs 48 ≢ bytes_of (width bs))
IsFault bs Source = HasWidth bs × ¬ HasSource bs
IsFault bs Reserved = HasSource bs × ¬ IsReserved bs
IsFault bs Truncated = HasHeader bs × (length bs < end_of bs)
IsFault bs TooLong = HasHeader bs × (end_of bs < length bs)
IsFault bs Damaged = HasRows bs × (checksum bs ≢ checksum_of bs)
IsFault bs (NoString row) = HasChecksum bs × HasNoString (strings bs) (codes bs) row
IsFault bs (Missing row) = HasChecksum bs × AreCodes (strings bs) (codes bs)
    × ((source_of bs).shards ≢ 0) × HasGap (codes bs) row
