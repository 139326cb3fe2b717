-- Lists of records.
use Rattle.intaglio_records.proofs.Names.{common_steps, cases_lt, le-leb, leb-true, get_or_append_left, length-drop, length-map, take-map, slice_get-map, sum_by-cons, header_of, IsRecord, AreRecords, pair_of, set_aside, Strings, byte_room_of}
use Rattle.std.proofs.Common.{length-append, take_all, ◌≡◌, ℕ, ◌+◌, ◌-◌, ◌*◌, ◌%◌, ◌^◌, ◌<◌, ◌≤◌, suc, zero, List, [], ◌∷◌, ◌++◌, length, take, drop, map, get_or, slice_get, Some, sum_by, refl, ◌∙◌, arith, inl, inr, OnOk, OnErr, Result, Ok, Err, ◌⊎◌}

-- each string of the list has the bytes of a header
abbrev pub AreLong : List (List ℕ) → Type 0
AreLong rs = (i : ℕ) → i < length rs → 13 ≤ length (get_or rs i [])

-- each record has the bytes of a header
pub are-long : (rs : List (List ℕ)) → AreRecords rs → AreLong rs
are-long rs h i l = (h i l).long

-- the headers of all records are within their bytes
pub headers-within : (rs : List (List ℕ)) → AreLong rs → 13 * length rs ≤ sum_by length rs
headers-within [] h = omega arith
headers-within (r ∷ rs) h = omega (arith, h 0 (omega arith), sum_by-cons length r rs, headers-within rs (λ i l. h (suc i) (omega (arith, l))))

-- so are those of the records behind the first n
pub headers-behind : (n : ℕ) (rs : List (List ℕ)) → AreLong rs
    → 13 * (length rs - n) + sum_by length (take n rs) ≤ sum_by length rs
headers-behind zero rs h = omega (arith, headers-within rs h)
headers-behind (suc n) [] h = omega arith
headers-behind (suc n) (r ∷ rs) h = omega (arith, sum_by-cons length r (take n rs), sum_by-cons length r rs, headers-behind n rs (λ i l. h (suc i) (omega (arith, l))))

-- the strings of records
abbrev pub strings_in : List (List ℕ) → List (List ℕ)
strings_in rs = map (λ (p : ℕ × List ℕ). p.1) (map pair_of rs)

-- the bytes of all records are those of the headers and of the strings
pub strings-bytes : (rs : List (List ℕ)) → AreLong rs
    → 13 * length rs + sum_by length (strings_in rs) ≡ sum_by length rs
strings-bytes [] h = refl
strings-bytes (r ∷ rs) h = grind (arith, common_steps, h 0, length-drop, sum_by-cons, strings-bytes rs (λ i l. h (suc i) (omega (arith, l))))

-- how many bytes of strings there is room for, said of the buffer
pub room-is : (b : Strings) → AreLong b.list → length b.list ≤ b.most → set_aside b ≤ b.spare_bytes
    → 13 * b.most + (sum_by length (strings_in b.list) + (b.spare_bytes - set_aside b)) ≡ byte_room_of b
room-is b long order headers = omega (arith, strings-bytes b.list long, order, headers)

-- a header in front of its string makes a record
pub record-made : (hash number : ℕ) (string : List ℕ)
    → IsRecord number (header_of hash (number % 2 ^ 32) (length string) ++ string)
record-made hash number string = grind (arith, common_steps)

-- one more record behind the others
pub records-push : (rs : List (List ℕ)) (r : List ℕ) → AreRecords rs → IsRecord (length rs) r
    → AreRecords (rs ++ r ∷ [])
records-push rs r h is i l = grind (arith, common_steps, cases_lt i (length rs), get_or_append_left, h i)

-- the first n records
pub records-take : (n : ℕ) (rs : List (List ℕ)) → AreRecords rs → AreRecords (take n rs)
records-take n rs h i l = grind (arith, common_steps)

-- the string of a record that is there
pub get-string : (rs : List (List ℕ)) (i : ℕ) (r : List ℕ) → slice_get rs i ≡ Some r
    → slice_get (strings_in rs) i ≡ Some (drop 13 r)
get-string rs i r is = grind (arith, common_steps, slice_get-map)

-- a fact of each case holds in one of them
pub ok-or-err : {T E A B : Type 0} → (r : Result T E) → OnOk r A → OnErr r B → A ⊎ B
ok-or-err (Ok _) a b = inl a
ok-or-err (Err _) a b = inr b

-- what the proofs of calls of records use
pub ruleset record_rules = (common_steps, are-long, headers-within, strings-bytes, room-is, leb-true, le-leb)

-- what the proof of `clear` uses
pub ruleset clear_rules = (common_steps, are-long, headers-within, room-is)

-- what the proofs of `string`, `push_hashed` and `truncate` use
pub ruleset list_rules = (common_steps, get-string, take_all, length-drop, record-made, length-append, length-map, records-push, take-map)
