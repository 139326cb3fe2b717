-- What a contract sees of a list of strings in one buffer.
use Rattle.std.specs.Prelude.{◌≡◌, ℕ, ◌+◌, ◌<◌, ◌≤◌, List, [], ◌∷◌, length, refl, slice_range, sum_by}
use Rattle.std.specs.Coded.{Coded, code_by, coded×, coded_ℕ, coded_list}

-- the strings, for how many there is room in total, the room for further bytes, and how many bytes of memory
-- are held for the strings' bytes
pub record Strings : Type 0 where
  pub list : List (List ℕ)
  pub most : ℕ
  pub spare_bytes : ℕ
  pub held_bytes : ℕ

-- it is stored as the tuple of its fields
abbrev pub strings_code : Coded Strings
strings_code =
    code_by
    (List (List ℕ) × (ℕ × (ℕ × ℕ)))
    (coded× (coded_list (coded_list coded_ℕ)) (coded× coded_ℕ (coded× coded_ℕ coded_ℕ)))
    (λ v. (v.list, (v.most, (v.spare_bytes, v.held_bytes))))
    (λ p. record { list = p.0; most = p.1.0; spare_bytes = p.1.1.0; held_bytes = p.1.1.1 })
    (λ _. refl)

-- the strings between a beginning and the ends, which follow each other in the bytes
abbrev pub strings_from : ℕ → List ℕ → List ℕ → List (List ℕ)
strings_from at bytes [] = []
strings_from at bytes (e ∷ es) = slice_range bytes at e ∷ strings_from e bytes es

-- no end lies before the one before it, and the last is the length of the bytes
abbrev pub AreEnds : ℕ → ℕ → List ℕ → Type 0
AreEnds at all [] = at ≡ all
AreEnds at all (e ∷ es) = (at ≤ e) × AreEnds e all es

-- there is room for one more string of n bytes
pub record HasRoom (n : ℕ) (v : Strings) : Type 0 where
  pub string : length v.list < v.most
  pub bytes : n ≤ v.spare_bytes

-- the number of bytes of all strings
abbrev pub byte_count_of : Strings → ℕ
byte_count_of v = sum_by length v.list

-- the room for bytes in total: that of the strings, and what is spare
abbrev pub byte_room_of : Strings → ℕ
byte_room_of v = byte_count_of v + v.spare_bytes
