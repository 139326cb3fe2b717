-- The bytes in front of a string.
use Rattle.std.specs.Prelude.{ℕ, ◌+◌, List, [], ◌∷◌, ◌++◌, get_or, min}
use Rattle.std.specs.Int.{from_le_bytes, to_le_bytes, w32, w64}

-- a hash, a number and a length; 255 stands for a length of 255 or more
abbrev pub header_of : ℕ → ℕ → ℕ → List ℕ
header_of hash number n = to_le_bytes w64 hash ++ (to_le_bytes w32 number ++ min n 255 ∷ [])

-- the hash of the record that begins at this byte
abbrev pub hash_at : List ℕ → ℕ → ℕ
hash_at bytes i =
    from_le_bytes w64
    (get_or bytes i 0 ∷ get_or bytes (i + 1) 0 ∷ get_or bytes (i + 2) 0 ∷ get_or bytes (i + 3) 0
    ∷ get_or bytes (i + 4) 0 ∷ get_or bytes (i + 5) 0 ∷ get_or bytes (i + 6) 0 ∷ get_or bytes (i + 7) 0 ∷ [])

-- its number
abbrev pub number_at : List ℕ → ℕ → ℕ
number_at bytes i =
    from_le_bytes w32 (get_or bytes (i + 8) 0 ∷ get_or bytes (i + 9) 0 ∷ get_or bytes (i + 10) 0
    ∷ get_or bytes (i + 11) 0 ∷ [])
