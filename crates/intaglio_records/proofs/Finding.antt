-- A search finds each entry of its class and tag once.
use Rattle.intaglio_records.proofs.Names.{common_steps, IsPermutation, cases_eq, cond-true, cond-false, eq-eqb, ne_eqb, eqb_tells, IsPermutation-refl, IsPermutation-trans, IsPermutation-append_left, IsPermutation-append_right, IsPermutation-append_comm, Entry, tag_of, Overflow, first_line, add, overflow, newest, slots_with, overflow_slots, slots_of, AreFound}
use Rattle.std.proofs.Common.{◌≡◌, ◌≢◌, ℕ, ◌%◌, ◌<◌, ◌≤◌, ◌==◌, List, [], ◌∷◌, ◌++◌, length, cond, refl, arith, inl, inr, append_assoc}
use Rattle.intaglio_records.proofs.Tops.{spilling, first-full, first-other, first-here, is-top, length-none}

-- an entry in the middle
inserted : (one front behind : List ℕ) → IsPermutation (one ++ (front ++ behind)) ((front ++ one) ++ behind)
inserted one front behind = grind (arith, common_steps, append_assoc one front behind, IsPermutation-append_left behind (one ++ front) (front ++ one) (IsPermutation-append_comm one front))

-- an entry that is added to an overflow line of one class doesn't change the overflow slots of another
slots-other : (k c tag : ℕ) (e : Entry) (os : List Overflow) → k ≢ c →
    overflow_slots k tag (add c e os) ≡ overflow_slots k tag os
slots-other k c tag e [] other = refl
slots-other k c tag e (o ∷ os) other = grind (arith, common_steps, eqb_tells, slots-other k c tag e os other)

-- the slot of an entry, if it has the tag
abbrev one_of : ℕ → Entry → List ℕ
one_of tag e = cond (tag_of e.0 == tag) (e.1 ∷ []) []

-- an entry that is added to an overflow line of its class adds its slot to those there, if it has the tag
slots-here : (base c tag : ℕ) (e : Entry) (os : List Overflow) → 0 < newest base c os →
    IsPermutation (one_of tag e ++ overflow_slots c tag os) (overflow_slots c tag (add c e os))
slots-here base c tag e [] some = absurd (omega (arith, some))
slots-here base c tag e (o ∷ os) some = grind (arith, common_steps, eqb_tells, inserted, slots-here base c tag e os)

-- one more entry doesn't change the overflow slots of another class
overflow_slots-other : (base k tag : ℕ) (e : Entry) (es : List Entry) → k ≢ e.0 % base →
    overflow_slots k tag (overflow base (e ∷ es)) ≡ overflow_slots k tag (overflow base es)
overflow_slots-other base k tag e es other = grind (arith, spilling, slots-other, cond-false, ne_eqb)

-- the slots of one class and tag
abbrev found : ℕ → ℕ → ℕ → List Entry → List ℕ
found base c tag es = slots_with tag (first_line base c es) ++ overflow_slots c tag (overflow base es)

-- one more entry doesn't change the slots of another class
found-other : (base k tag : ℕ) (e : Entry) (es : List Entry) → k ≢ e.0 % base →
    found base k tag (e ∷ es) ≡ found base k tag es
found-other base k tag e es other = grind (arith, common_steps, first-other, overflow_slots-other)

-- behind a first line that is full
found-behind : (base tag : ℕ) (e : Entry) (es : List Entry) (behind : List ℕ) →
    11 ≤ length (first_line base (e.0 % base) es) →
    overflow_slots (e.0 % base) tag (overflow base (e ∷ es)) ≡ behind →
    IsPermutation (one_of tag e ++ overflow_slots (e.0 % base) tag (overflow base es)) behind →
    IsPermutation (one_of tag e ++ found base (e.0 % base) tag es) (found base (e.0 % base) tag (e ∷ es))
found-behind base tag e es behind full is perm =
    let c = e.0 % base in let one = one_of tag e in let rest = overflow_slots c tag (overflow base es) in
    let front = slots_with tag (first_line base c es) in
    rw (first-full base e es full c, is)
    (IsPermutation-trans _ _ _ (rw (append_assoc front one rest) at (inserted one front rest))
    (IsPermutation-append_right front _ behind perm))

-- if there is a first line, one more entry adds its slot to those of its class, if it has the tag
found-here : (base tag : ℕ) (e : Entry) (es : List Entry) → 0 < base →
    IsPermutation (one_of tag e ++ found base (e.0 % base) tag es) (found base (e.0 % base) tag (e ∷ es))
found-here base tag e es some = grind (arith, spilling, is-top, found, one_of, first-here, inserted, length-none, found-behind, slots-here, cond-true, eq-eqb)

-- if there is a first line, a search by a hash gives the slot of each entry of its class and tag once
pub are-found : (base hash : ℕ) (es : List Entry) → 0 < base → AreFound base hash es
are-found base hash [] some = IsPermutation-refl []
are-found base hash (e ∷ es) some =
    let k = hash % base in let tag = tag_of hash in
    let old = are-found base hash es some in
    elim (cases_eq k (e.0 % base)) [
      | inr other ↦ grind (arith, common_steps, ne_eqb, found-other)
      | inl same ↦
          (let one : slots_of base hash (e ∷ es) ≡ one_of tag e ++ slots_of base hash es = grind (arith, common_steps) in
          let here : IsPermutation (one_of tag e ++ found base k tag es) (found base k tag (e ∷ es)) = grind (arith, common_steps, found-here) in
          rw one (IsPermutation-trans _ _ _ (IsPermutation-append_right (one_of tag e) _ _ old) here))
    ]
