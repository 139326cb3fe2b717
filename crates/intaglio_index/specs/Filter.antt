-- The filters of buckets: a bit for each eighth of the range of hashes.
use Rattle.std.specs.Prelude.{◌≡◌, ℕ, ◌/◌, ◌%◌, ◌^◌, List, length, slice_index_or}
use Rattle.std.specs.Int.{bit_at}
use Rattle.std.specs.List.{AllByRecursion}

-- the bit of the hash is set
abbrev pub IsMarked : ℕ → ℕ → Type 0
IsMarked filter hash = bit_at filter (hash / 2 ^ 61) ≡ 1

-- for each placed hash, the filter of its bucket has its bit set
pub record IsFiltered (filters : List ℕ) (count : ℕ) (hashes : List ℕ) : Type 0 where
  pub size : length filters ≡ count
  pub marks : AllByRecursion (λ hash. IsMarked (slice_index_or filters (hash % count) 0) hash) hashes
