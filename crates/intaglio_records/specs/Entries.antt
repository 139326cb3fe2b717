-- The entries of lines over records: the hash of each record, and its slot.
use Rattle.std.specs.Prelude.{ℕ, zero, suc, ◌+◌, Bool, cond, List, [], ◌∷◌, length, get_or, take, sum_by}
use Rattle.intaglio_records.specs.Line.{Entry}
use Rattle.intaglio_records.specs.Header.{hash_at}

-- where record i begins
abbrev pub position : List (List ℕ) → ℕ → ℕ
position rs i = sum_by length (take i rs)

-- the slot of a record: its number in a long index, and where it begins in a short one
abbrev pub slot_of : Bool → ℕ → ℕ → ℕ
slot_of is_long number at = cond is_long number at

-- the entries of the first n records, newest first
abbrev pub entries : Bool → List (List ℕ) → ℕ → List Entry
entries is_long rs zero = []
entries is_long rs (suc n) =
    (hash_at (get_or rs n []) 0, slot_of is_long n (position rs n)) ∷ entries is_long rs n

-- how long the record of a string with its hash is
abbrev pub size_of : ℕ × List ℕ → ℕ
size_of x = 13 + length x.1

-- the same entries, said of the hashes and the strings of the records
abbrev pub entries_of : Bool → List (ℕ × List ℕ) → ℕ → List Entry
entries_of is_long xs zero = []
entries_of is_long xs (suc n) =
    ((get_or xs n (0, [])).0, slot_of is_long n (sum_by size_of (take n xs))) ∷ entries_of is_long xs n
