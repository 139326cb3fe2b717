-- The newest entry less.
use Rattle.intaglio_records.proofs.Names.{common_steps, cases_eq, ne_eqb, eqb_tells, get_or-set_same, get_or-set_other, length-set, get_or-take, length-take-le, Line, Entry, IsLine, Overflow, first_line, newest_length, add, overflow, newest, no_line, AreBehind, AreChains, firsts_of}
use Rattle.std.proofs.Common.{◌≡◌, ◌≢◌, ℕ, suc, ◌+◌, ◌%◌, ◌<◌, ◌≤◌, List, [], ◌∷◌, length, get_or, set, take, sym, ◌∙◌, arith, inl, inr, mod-lt}
use Rattle.intaglio_records.proofs.ChainLemmas.{add-length, newest-add, newest-at, behind-kept, behind-same, chains-first}
use Rattle.intaglio_records.proofs.Tops.{spilling, first-here, first-other, first-full, overflow-same, overflow-add, overflow-new, is-top, length-here, length-none}

-- the newest entry of an overflow line is removed
behind-remove : (base c n : ℕ) (e : Entry) (lines : List Line) (x : Line) (os : List Overflow) →
    n ≡ newest base c os → 0 < n → base + length os ≤ length lines →
    ((es : List Entry) (next : ℕ) → IsLine (get_or lines n no_line) (e ∷ es) next → IsLine x es next) →
    AreBehind base lines (add c e os) → AreBehind base (set lines n x) os
behind-remove base c n e lines x [] is some le cut are = tt
behind-remove base c n e lines x (o ∷ os) is some le cut are =
    elim (eqb_tells o.0 c) [
      | inl h ↦
          (let here : n ≡ base + length os = rw h.0 at is in
          let was : AreBehind base lines ((o.0, e ∷ o.1) ∷ os) = rw h.0 at are in (
            rw (here, get_or-set_same lines (base + length os) x no_line (omega (arith, le)))
                (cut o.1 (newest base o.0 os) (rw here was.0)),
            behind-kept base lines n x os (λ k ge lt same. omega (arith, here, lt, same)) was.1,
          ))
      | inr h ↦
          (let there : n ≡ newest base c os = rw h.0 at is in
          let was : AreBehind base lines (o ∷ add c e os) = rw h.0 at are in
          let other : base + length os ≢ n = λ same. omega (arith, there, some, same, (newest-at base c os).1) in (
            rw (get_or-set_other lines n (base + length os) x no_line other)
                (rw (add-length c e os, newest-add base o.0 c e os) at was.0),
            behind-remove base c n e lines x os there some (omega (arith, le)) cut was.1,
          ))
    ]

-- each overflow line has an entry
length-add : (k c : ℕ) (e : Entry) (os : List Overflow) → 0 < newest_length k os →
    0 < newest_length k (add c e os)
length-add k c e [] some = some
length-add k c e (o ∷ os) some = grind (arith, common_steps, eqb_tells, length-add k c e os)

-- no newest overflow line of a class is empty
pub length-some : (base k : ℕ) (es : List Entry) → 0 < newest_length k (overflow base es)
length-some base k [] = omega arith
length-some base k (e ∷ es) = grind (arith, spilling, length-add, eqb_tells, length-some base k es)

-- in which line of its class k the newest entry is
pub data IsIn (base k : ℕ) (e : Entry) (es : List Entry) : Type 0 where
  in_first : length (first_line base k es) < 11 → newest base k (overflow base (e ∷ es)) ≡ 0 → IsIn base k e es
  in_newest : 11 ≤ length (first_line base k es) → newest_length k (overflow base es) < 11 →
      newest base k (overflow base (e ∷ es)) ≡ newest base k (overflow base es) →
      0 < newest base k (overflow base es) → 1 < newest_length k (overflow base (e ∷ es)) → IsIn base k e es
  in_new : 11 ≤ length (first_line base k es) → 11 ≤ newest_length k (overflow base es) →
      newest base k (overflow base (e ∷ es)) ≡ base + length (overflow base es) → IsIn base k e es

-- if there is a first line, an entry goes to that of its class, to its newest overflow line, or to a new one
pub is-in : (base k : ℕ) (e : Entry) (es : List Entry) → 0 < base → k ≡ e.0 % base → IsIn base k e es
is-in base k e es some at = rw at (grind (arith, spilling, is-top, length-here, length-some, newest-add, length-none))

module _ (base k : ℕ) (e : Entry) (es : List Entry) (lines : List Line) (some : 0 < base) (at : k ≡ e.0 % base)
    (are : AreChains base lines (firsts_of base (e ∷ es)) (overflow base (e ∷ es))) where
  -- from its first line
  pub remove-first : (x : Line) → length (first_line base k es) < 11 →
      ((xs : List Entry) (next : ℕ) → IsLine (get_or lines k no_line) (e ∷ xs) next → IsLine x xs next) →
      AreChains base (set lines k x) (firsts_of base es) (overflow base es)
  remove-first = rw at (λ x lt cut.
      let c = e.0 % base in
      let was : AreChains base lines (firsts_of base (e ∷ es)) (overflow base es) =
      rw (overflow-same base e es lt) at are in
      chains-first base c lines (firsts_of base (e ∷ es)) (firsts_of base es) (overflow base es) x
      (mod-lt e.0 some) was (λ k other. sym (first-other base k e es other))
      (cut _ _ (rw (first-here base e es lt) at (was.firsts_are c (mod-lt e.0 some)))))

  -- from an overflow line that has others
  pub remove-newest : (x : Line) (n : ℕ) → n ≡ newest base k (overflow base es) → 0 < n →
      11 ≤ length (first_line base k es) → newest_length k (overflow base es) < 11 →
      ((xs : List Entry) (next : ℕ) → IsLine (get_or lines n no_line) (e ∷ xs) next → IsLine x xs next) →
      AreChains base (set lines n x) (firsts_of base es) (overflow base es)
  remove-newest = rw at (λ x n is there full lt cut.
      let c = e.0 % base in let os = overflow base es in
      let was : AreChains base lines (firsts_of base (e ∷ es)) (add c e os) =
      rw (overflow-add base e es full lt) at are in
      record {
        size = omega (arith, length-set lines n x, was.size, add-length c e os);
        firsts_are = λ k lt. rw (
          get_or-set_other lines n k x no_line (λ same. omega (arith, is, there, lt, same, (newest-at base c os).0)),
          sym (newest-add base k c e os),
          sym (first-full base e es full k),
        ) (was.firsts_are k lt);
        behind = behind-remove base c n e lines x os is there (omega (arith, was.size, add-length c e os)) cut
            was.behind;
      })

  -- it is alone in a new overflow line
  pub is-new : (n : ℕ) → n ≡ base + length (overflow base es) → 11 ≤ length (first_line base k es) →
      11 ≤ newest_length k (overflow base es) →
      IsLine (get_or lines n no_line) (e ∷ []) (newest base k (overflow base es))
  is-new = rw at (λ n is full none. rw is (rw (overflow-new base e es full none) at are.behind).0)

  -- with its overflow line
  pub remove-new : (y : Line) (n : ℕ) → n ≡ base + length (overflow base es) →
      11 ≤ length (first_line base k es) → 11 ≤ newest_length k (overflow base es) →
      IsLine y (first_line base k es) (newest base k (overflow base es)) →
      AreChains base (take n (set lines k y)) (firsts_of base es) (overflow base es)
  remove-new = rw at (λ y n size full none is.
      let c = e.0 % base in let os = overflow base es in
      let within : c < base = mod-lt e.0 some in
      let was : AreChains base lines (firsts_of base (e ∷ es)) ((c, e ∷ []) ∷ os) =
      rw (overflow-new base e es full none) at are in
      let long : length lines ≡ suc n = omega (arith, was.size, size) in
      record {
        size = length-take-le n (set lines c y) (omega (arith, length-set lines c y, long)) ∙ size;
        firsts_are =
            λ k lt. rw (get_or-take n (set lines c y) k no_line (omega (arith, lt, size))) (elim (cases_eq k c) [
              | inl same ↦ rw (same, get_or-set_same lines c y no_line (omega (arith, within, long))) is
              | inr other ↦ rw (get_or-set_other lines c k y no_line other)
                  (rw (ne_eqb c k (λ same. other (sym same))) at (was.firsts_are k lt))
            ]);
        behind =
            behind-same base lines (take n (set lines c y)) os
            (λ k ge lt. get_or-take n (set lines c y) k no_line (omega (arith, lt, size))
            ∙ get_or-set_other lines c k y no_line (λ same. omega (arith, ge, within, same))) was.behind.1;
      })
