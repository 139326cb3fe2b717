-- The header and the codes of a column, in its bytes.
use Rattle.std.specs.Prelude.{ℕ, zero, suc, ◌+◌, ◌==◌, cond, List, [], ◌∷◌, ◌++◌, drop, slice_range, take}
use Rattle.std.specs.Hash.DefaultHasher.{with_keys, write, finish}
use Rattle.intaglio_hash.specs.Push.{number}
use Rattle.intaglio_hash.specs.Numbers.{u32_at, u64_at}
use Rattle.intaglio_columns.specs.Width.{bytes_of, greatest, missing, width_for}
use Rattle.intaglio_columns.specs.declared.file.source.RowSource.{RowSource}
use Rattle.intaglio_columns.specs.declared.file.width.Width.{Width}

-- the header: the kind of the dictionary, its two hashes, how many strings and shards it has, and how many
-- rows there are
abbrev pub kind : List ℕ → ℕ
kind bs = u32_at bs 12

abbrev pub hash0 : List ℕ → ℕ
hash0 bs = u64_at bs 16

abbrev pub hash1 : List ℕ → ℕ
hash1 bs = u64_at bs 24

abbrev pub strings : List ℕ → ℕ
strings bs = u64_at bs 32

abbrev pub rows : List ℕ → ℕ
rows bs = u64_at bs 40

abbrev pub shards : List ℕ → ℕ
shards bs = u32_at bs 52

-- the checksum
abbrev pub checksum : List ℕ → ℕ
checksum bs = u64_at bs 56

-- from where the rows come
abbrev pub source_kind : List ℕ → ℕ
source_kind bs = u32_at bs 68

abbrev pub source_of : List ℕ → RowSource
source_of bs = record {
  shards = u32_at bs 64;
  is_text = source_kind bs == 1;
  hash0 = u64_at bs 72;
  hash1 = u64_at bs 80;
  shard = u32_at bs 88;
}

-- the width of each code
abbrev pub width : List ℕ → Width
width bs = width_for (strings bs)

-- eight zeros
abbrev pub zeros : List ℕ
zeros = 0 ∷ 0 ∷ 0 ∷ 0 ∷ 0 ∷ 0 ∷ 0 ∷ 0 ∷ []

-- the header with zeros in place of the checksum
abbrev pub cleared : List ℕ → List ℕ
cleared bs = take 56 bs ++ zeros ++ slice_range bs 64 128

-- the hash of the codes and then of that header, under the keys 4 and 0
abbrev pub checksum_of : List ℕ → ℕ
checksum_of bs = finish (write (write (with_keys 4 0) (drop 128 bs)) (cleared bs))

-- a code of a width, as one of four bytes: the greatest is the missing one
abbrev pub widened : Width → ℕ → ℕ
widened w code = cond (code == greatest w) missing code

-- the code at a position
unfoldable pub code_at : List ℕ → Width → ℕ → ℕ
code_at bs w at = widened w (number bs at 0 (bytes_of w))

-- n codes that follow each other
abbrev pub codes_at : List ℕ → Width → ℕ → ℕ → List ℕ
codes_at bs w at zero = []
codes_at bs w at (suc n) = code_at bs w at ∷ codes_at bs w (at + bytes_of w) n

-- the codes, which begin at 128
unfoldable pub codes : List ℕ → List ℕ
codes bs = codes_at bs (width bs) 128 (rows bs)
