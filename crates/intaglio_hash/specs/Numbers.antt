-- Little-endian numbers in bytes.
use Rattle.std.specs.Prelude.{ℕ, List}
use Rattle.intaglio_hash.specs.Push.{number}

-- those of one, two, four and eight bytes
unfoldable pub u8_at : List ℕ → ℕ → ℕ
u8_at bs at = number bs at 0 1

unfoldable pub u16_at : List ℕ → ℕ → ℕ
u16_at bs at = number bs at 0 2

unfoldable pub u32_at : List ℕ → ℕ → ℕ
u32_at bs at = number bs at 0 4

unfoldable pub u64_at : List ℕ → ℕ → ℕ
u64_at bs at = number bs at 0 8
