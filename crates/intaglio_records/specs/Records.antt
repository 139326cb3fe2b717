-- What a contract sees of strings with their hashes, and how they are kept.
use Rattle.std.specs.Prelude.{◌≡◌, ◌≢◌, ℕ, ◌+◌, ◌-◌, ◌*◌, ◌%◌, ◌^◌, ◌<◌, ◌≤◌, List, [], length, get_or, drop, map, max, min, refl, sum_by}
use Rattle.std.specs.Coded.{Coded, code_by, coded×, coded_ℕ, coded_list}
use Rattle.intaglio_records.specs.Strings.{Strings}
use Rattle.intaglio_records.specs.Header.{hash_at, number_at}

-- the hashes and the strings, for how many there is room in total, the room for bytes of further strings, and
-- how many bytes of memory are held for records
pub record Records : Type 0 where
  pub list : List (ℕ × List ℕ)
  pub most : ℕ
  pub spare_bytes : ℕ
  pub held_bytes : ℕ

-- it is stored as the tuple of its fields
abbrev pub records_code : Coded Records
records_code =
    code_by
    (List (ℕ × List ℕ) × (ℕ × (ℕ × ℕ)))
    (coded× (coded_list (coded× coded_ℕ (coded_list coded_ℕ))) (coded× coded_ℕ (coded× coded_ℕ coded_ℕ)))
    (λ v. (v.list, (v.most, (v.spare_bytes, v.held_bytes))))
    (λ p. record { list = p.0; most = p.1.0; spare_bytes = p.1.1.0; held_bytes = p.1.1.1 })
    (λ _. refl)

abbrev pub hashes_of : Records → List ℕ
hashes_of v = map (λ (p : ℕ × List ℕ). p.0) v.list

abbrev pub strings_of : Records → List (List ℕ)
strings_of v = map (λ (p : ℕ × List ℕ). p.1) v.list

-- there is room for one more string of n bytes
pub record HasRoom (n : ℕ) (v : Records) : Type 0 where
  pub string : length v.list < v.most
  pub bytes : n ≤ v.spare_bytes

-- how many bytes of strings there is room for in total
abbrev pub string_room_of : Records → ℕ
string_room_of v = sum_by length (strings_of v) + v.spare_bytes

-- how many bytes of records there is room for in total, with the 13 of each string that there is room for
abbrev pub record_room_of : Records → ℕ
record_room_of v = 13 * v.most + string_room_of v

-- the hash and the string of a record
abbrev pub pair_of : List ℕ → ℕ × List ℕ
pair_of r = (hash_at r 0, drop 13 r)

-- a record has its number and its length in front of the string. A number of 2^32 or more
-- doesn't fit, and is never read
pub record IsRecord (number : ℕ) (r : List ℕ) : Type 0 where
  pub long : 13 ≤ length r
  pub number_is : number_at r 0 ≡ number % 2 ^ 32
  pub length_is : get_or r 12 0 ≡ min (length r - 13) 255

abbrev pub AreRecords : List (List ℕ) → Type 0
AreRecords rs = (i : ℕ) → i < length rs → IsRecord i (get_or rs i [])

-- how many bytes are set aside for those in front of the strings that there is room for
abbrev pub set_aside : Strings → ℕ
set_aside b = 13 * (b.most - length b.list)
