-- Searches among records.
use Rattle.intaglio_records.proofs.Names.{common_steps, concat, All, cases_lt, cond_both, le-ltb, sum_by-cons, slice_get-map, slice_get-get_or, Candidates, hash_at, number_at, Entry, tag_of, pair_of, AreRecords, entries, position, slot_of, IsPosition, IsSlot, begin_of, numbers_with, one_of, AreAll, IsPermutation, length-map, sum_by-IsPermutation}
use Rattle.std.proofs.Common.{◌≡◌, ◌≢◌, ℕ, zero, suc, ◌+◌, ◌%◌, ◌^◌, ◌<◌, ◌≤◌, ◌==◌, ◌&&◌, nat_lt, Bool, true, false, inl, inr, arith, sum_by, List, [], ◌∷◌, ◌++◌, length, drop, get_or, slice_get, Some, map, cond, refl, sym, ap, ◌∙◌, subst}
use Rattle.std.proofs.lemmas.List.Elements.{All-cons, All-head, All-nil, All-tail}
use Rattle.intaglio_records.specs.Search as search
use Rattle.intaglio_records.specs.declared.matches.Matches.{Matches}
use Rattle.intaglio_records.proofs.Reading.{There, there}
use Rattle.intaglio_records.specs.Matches.{IsLeft}

-- what is known after a slot is given whose record begins here: whether that is the
-- next to be given depends on its hash
pub record Stepped (xs : List (ℕ
    × List ℕ)) (hash : ℕ) (matches : Matches) (slot at : ℕ) (left : List ℕ) : Type 0 where
  pub rest : List ℕ
  pub slot_is : IsSlot matches.is_long matches.records.now.list slot
  pub begins : IsPosition matches.records.now.list at
  pub there : There matches.records.now.list (concat matches.records.now.list) at begins.0
  pub is : IsLeft xs hash matches rest
  pub same : hash_at (concat matches.records.now.list) at ≡ hash
      → left ≡ number_at (concat matches.records.now.list) at ∷ rest
  pub other : hash_at (concat matches.records.now.list) at ≢ hash → left ≡ rest

-- the record of a slot begins where it says
pub slot-begins : (long : Bool) (rs : List (List ℕ)) (slot : ℕ) → IsSlot long rs slot
    → IsPosition rs (begin_of long rs slot)
slot-begins true rs slot is = grind (arith, common_steps)
slot-begins false rs slot is = is

-- when a search gives a slot, what was left is its record's number, if that has the hash, and the rest
pub stepped : (xs : List (ℕ
    × List ℕ)) (hash : ℕ) (matches : Matches) (next : Candidates) (slot at : ℕ) (left : List ℕ)
    → at ≡ begin_of matches.is_long matches.records.now.list slot → IsLeft xs hash matches left
    → ((slots : List ℕ) → search.IsLeft matches.candidates slots → (rest : List ℕ) × (slots ≡ slot ∷ rest)
    × search.IsLeft next rest)
    → Stepped xs hash (record matches { candidates = next }) slot at left
stepped xs hash matches next slot at left begins is gives =
    let given = gives is.slots is.slots_left in
    let slots = given.0 in
    let rs = matches.records.now.list in
    let bytes = concat rs in
    let here = IsSlot matches.is_long rs in
    let begin = begin_of matches.is_long rs in
    let all : All here (slot ∷ slots) = subst (λ ss. All here ss) given.1 is.each_slot in
    let first : here slot = All-head here slot slots all in
    let now : left ≡ numbers_with hash bytes (at ∷ map begin slots) = grind (arith, common_steps) in
    let rest = numbers_with hash bytes (map begin slots) in
    let at_is = subst (IsPosition rs) (sym begins) (slot-begins matches.is_long rs slot first) in
    record {
      rest = rest;
      slot_is = first;
      begins = at_is;
      there = there rs bytes at at_is.0 refl is.each is.few at_is.1 at_is.2;
      is = record {
        slots = slots;
        slots_left = given.2;
        each = is.each;
        few = is.few;
        each_slot = All-tail here slot slots all;
        list = is.list;
        hash_is = is.hash_is;
        left_is = refl;
      };
      same = grind (arith, common_steps);
      other = grind (arith, common_steps);
    }

-- the pair of the record that is found
pub found : (xs : List (ℕ × List ℕ)) (rs : List (List ℕ)) (i number hash : ℕ) (string : List ℕ)
    → map pair_of rs ≡ xs → i < length rs → number ≡ i
    → hash ≡ hash_at (get_or rs i []) 0 → string ≡ drop 13 (get_or rs i [])
    → slice_get xs number ≡ Some (hash, string)
found xs rs i number hash string list l n h s = grind (arith, common_steps, slice_get-map, slice_get-get_or)

-- how often number i is among those with the hash, said of where their records begin
abbrev pub count_at : ℕ → List ℕ → ℕ → ℕ → ℕ
count_at hash bytes i at = cond (hash_at bytes at == hash) (one_of i (number_at bytes at)) 0

-- a number in front, which is taken if it has the hash, then adds to the count of i whether it is i
count-one : (h hash number i : ℕ) (rest : List ℕ)
    → sum_by (one_of i) (cond (h == hash) (number ∷ rest) rest) ≡ cond (h == hash) (one_of i number) 0
    + sum_by (one_of i) rest
count-one h hash number i rest = grind (arith, common_steps)

-- number i is among those with the hash as often as is counted over where their records begin
pub count-numbers : (hash : ℕ) (bytes : List ℕ) (i : ℕ) (ats : List ℕ)
    → sum_by (one_of i) (numbers_with hash bytes ats) ≡ sum_by (count_at hash bytes i) ats
count-numbers hash bytes i [] = refl
count-numbers hash bytes i (at ∷ ats) = grind (arith, count-one (hash_at bytes at) hash (number_at bytes at) i (numbers_with hash bytes ats), count-numbers hash bytes i ats, sum_by-cons (count_at hash bytes i) at ats)

-- the slots of the first n records are slots of records
pub slots-all : (long : Bool) (rs : List (List ℕ)) (base hash n : ℕ) → n ≤ length rs
    → All (IsSlot long rs) (search.slots_of base hash (entries long rs n))
slots-all long rs base hash zero l = All-nil (IsSlot long rs)
slots-all long rs base hash (suc n) l =
    let rest = slots-all long rs base hash n (omega (arith, l)) in
    let slot = slot_of long n (position rs n) in
    cond_both
    ((hash_at (get_or rs n []) 0 % base == hash % base) && (tag_of (hash_at (get_or rs n []) 0)
    == tag_of hash))
    (slot ∷ [])
    []
    (λ front. All (IsSlot long rs) (front ++ search.slots_of base hash (entries long rs n)))
    (λ _. All-cons (IsSlot long rs) slot (search.slots_of base hash (entries long rs n)) (
      n,
      omega (arith, l),
      refl,
    ) rest)
    (λ _. rest)

-- what the entry of number n adds to a sum over the slots
count-entry : (base hash h at value : ℕ) (es : List Entry) (f : ℕ → ℕ) → f at ≡ cond (h == hash) value 0
    → sum_by f (search.slots_of base hash ((
      h,
      at,
    ) ∷ es)) ≡ cond (h == hash) value 0 + sum_by f (search.slots_of base hash es)
count-entry base hash h at value es f is = grind (arith, common_steps)

-- what is counted of the first n numbers, and of one more
count-more : (hn hi hash i n : ℕ) → (n ≡ i → hn ≡ hi)
    → cond (hn == hash) (one_of i n) 0 + cond (nat_lt i n && (hi == hash)) 1 0
    ≡ cond (nat_lt i (suc n) && (hi == hash)) 1 0
count-more hn hi hash i n same = grind (arith, common_steps)

-- the same, said of a slot
abbrev pub count_of : Bool → List (List ℕ) → ℕ → List ℕ → ℕ → ℕ → ℕ
count_of long rs hash bytes i slot = count_at hash bytes i (begin_of long rs slot)

-- the sum of f over a list that is mapped by g is the sum of f after g over the list
count-mapped : (f g : ℕ → ℕ) (slots : List ℕ) → sum_by f (map g slots) ≡ sum_by (λ s. f (g s)) slots
count-mapped f g [] = refl
count-mapped f g (s ∷ slots) = grind (arith, common_steps, count-mapped f g slots)

-- and number i is among those with the hash once if it has it
pub count-slots : (long : Bool) (rs : List (List ℕ)) (bytes : List ℕ) (base hash i n : ℕ) → bytes ≡ concat rs
    → AreRecords rs → length rs ≤ 2 ^ 32 → n ≤ length rs
    → sum_by (count_of long rs hash bytes i) (search.slots_of base hash (entries long rs n))
    ≡ cond (nat_lt i n && (hash_at (get_or rs i []) 0 == hash)) 1 0
count-slots long rs bytes base hash i zero all each few l = rw (le-ltb i 0 (omega arith)) refl
count-slots long rs bytes base hash i (suc n) all each few l =
    let h = hash_at (get_or rs n []) 0 in
    let at = position rs n in
    let slot = slot_of long n at in
    let t = there rs bytes at n all each few (omega (arith, l)) refl in
    let value : count_of long rs hash bytes i slot ≡ cond (h == hash) (one_of i n) 0 = grind (arith, common_steps) in
    grind (
      arith,
      value,
      count-entry base hash h slot (one_of i n) (entries long rs n) (count_of long rs hash bytes i),
      count-slots long rs bytes base hash i n all each few,
      count-more h (hash_at (get_or rs i []) 0) hash i n (λ e. ap (λ k. hash_at (get_or rs k []) 0) e),
    )

-- so a search finds each number with the hash once
pub all-found : (long : Bool) (rs : List (List ℕ)) (base hash : ℕ) (slots : List ℕ) → AreRecords rs
    → length rs ≤ 2 ^ 32
    → IsPermutation (search.slots_of base hash (entries long rs (length rs))) slots
    → AreAll (map pair_of rs) hash (numbers_with hash (concat rs) (map (begin_of long rs) slots))
all-found long rs base hash slots each few perm i =
    let n = length rs in
    let bytes = concat rs in
    let moved =
    sum_by-IsPermutation (count_of long rs hash bytes i) (search.slots_of base hash (entries long rs n))
    slots perm in
    let counted = count-numbers hash bytes i (map (begin_of long rs) slots)
    ∙ count-mapped (count_at hash bytes i) (begin_of long rs) slots ∙ moved
    ∙ count-slots long rs bytes base hash i n refl each few (omega arith) in
    counted ∙ elim (cases_lt i n) [
      | inl low ↦ grind (arith, common_steps)
      | inr high ↦ rw (length-map rs pair_of, le-ltb i n high) refl
    ]
