-- What a search by a hash finds.
use Rattle.std.specs.Prelude.{◌≡◌, ℕ, ◌^◌, ◌<◌, ◌≤◌, ◌==◌, Bool, nat_lt, ◌&&◌, List, [], ◌∷◌, cond, length, get_or, map, Option, Some, MatchOption, sum_by, slice_get}
use Rattle.std.specs.List.{concat, All}
use Rattle.std.specs.Borrow.{Bor}
use Rattle.intaglio_records.specs.Search as search
use Rattle.intaglio_records.specs.declared.matches.Matches.{Matches}
use Rattle.intaglio_records.specs.Header.{hash_at, number_at}
use Rattle.intaglio_records.specs.Records.{pair_of, AreRecords}
use Rattle.intaglio_records.specs.Entries.{position, slot_of}

-- a record begins at this byte
abbrev pub IsPosition : List (List ℕ) → ℕ → Type 0
IsPosition rs at = (i : ℕ) × (i < length rs) × (at ≡ position rs i)

-- it is the slot of a record
abbrev pub IsSlot : Bool → List (List ℕ) → ℕ → Type 0
IsSlot is_long rs slot = (i : ℕ) × (i < length rs) × (slot ≡ slot_of is_long i (position rs i))

-- where the record of a slot begins
abbrev pub begin_of : Bool → List (List ℕ) → ℕ → ℕ
begin_of is_long rs slot = cond is_long (position rs slot) slot

-- the numbers of the records with this hash, of those that begin at these bytes
abbrev pub numbers_with : ℕ → List ℕ → List ℕ → List ℕ
numbers_with hash bytes [] = []
numbers_with hash bytes (at ∷ ats) =
    cond (hash_at bytes at == hash) (number_at bytes at ∷ numbers_with hash bytes ats)
    (numbers_with hash bytes ats)

-- the numbers of the records that a search has still to give: those with the hash, where a slot says
pub record IsLeft (xs : List (ℕ × List ℕ)) (hash : ℕ) (matches : Matches) (left : List ℕ) : Type 0 where
  pub slots : List ℕ
  pub slots_left : search.IsLeft matches.candidates slots
  pub each : AreRecords matches.records.now.list
  pub few : length matches.records.now.list ≤ 2 ^ 32
  pub each_slot : All (IsSlot matches.is_long matches.records.now.list) slots
  pub list : map pair_of matches.records.now.list ≡ xs
  pub hash_is : matches.hash ≡ hash
  pub left_is : left
      ≡ numbers_with hash (concat matches.records.now.list)
      (map (begin_of matches.is_long matches.records.now.list) slots)

-- no more strings than this are left: it falls with each one that a search gives, so a loop over them ends
abbrev pub most_left : Matches → ℕ
most_left matches = search.most_left matches.candidates

abbrev pub IsSearch : Matches → Type 0
IsSearch matches = (xs : List (ℕ × List ℕ)) × (hash : ℕ) × (left : List ℕ) × IsLeft xs hash matches left

-- the same are left
abbrev pub LeavesAll : Matches → Matches → Type 0
LeavesAll old new = (xs : List (ℕ × List ℕ)) (hash : ℕ) (left : List ℕ) → IsLeft xs hash old left
    → IsLeft xs hash new left

-- the first of those that are left, if there are any, with its string
abbrev pub GivesMatch : Matches → Option (ℕ × Bor (List ℕ)) → Matches → Type 0
GivesMatch old result new =
    (xs : List (ℕ × List ℕ)) (hash : ℕ) (left : List ℕ) → IsLeft xs hash old left →
    MatchOption result ((left ≡ []) × IsLeft xs hash new left) (λ m.
    (rest : List ℕ) × (left ≡ m.0 ∷ rest) × IsLeft xs hash new rest
    × (slice_get xs m.0 ≡ Some (hash, m.1.now)))

-- 1 for number i, and 0 for any other
abbrev pub one_of : ℕ → ℕ → ℕ
one_of i n = cond (n == i) 1 0

-- each number that has the hash is there once, and no other
abbrev pub AreAll : List (ℕ × List ℕ) → ℕ → List ℕ → Type 0
AreAll xs hash left =
    (i : ℕ) → sum_by (one_of i) left ≡ cond (nat_lt i (length xs) && ((get_or xs i (0, [])).0 == hash)) 1 0

-- a search by a hash, at its beginning
abbrev pub FindsAll : List (ℕ × List ℕ) → ℕ → Matches → Type 0
FindsAll xs hash matches = (left : List ℕ) × IsLeft xs hash matches left × AreAll xs hash left
