-- How chains of lines change.
use Rattle.intaglio_records.proofs.Names.{common_steps, cases_eq, eqb_tells, get_or-set_same, get_or-set_other, length-set, get_or_append_left, get_or_default, get_or-append_seam, Line, Entry, IsLine, Overflow, add, newest, no_line, AreBehind, AreChains}
use Rattle.std.proofs.Common.{◌≡◌, ◌≢◌, ℕ, ◌+◌, ◌<◌, ◌≤◌, List, [], ◌∷◌, ◌++◌, length, get_or, set, refl, ◌∙◌, arith, inl, inr, length-append}

-- adding an entry to an overflow line leaves the number of these lines
pub add-length : (c : ℕ) (e : Entry) (os : List Overflow) → length (add c e os) ≡ length os
add-length c e [] = refl
add-length c e (o ∷ os) = grind (arith, common_steps, eqb_tells, add-length c e os)

-- an added entry moves no line
pub newest-add : (base k c : ℕ) (e : Entry) (os : List Overflow) →
    newest base k (add c e os) ≡ newest base k os
newest-add base k c e [] = refl
newest-add base k c e (o ∷ os) = grind (arith, common_steps, eqb_tells, add-length c e os, newest-add base k c e os)

-- the number of a class's newest overflow line, if it isn't 0, comes behind the first lines. If there is a
-- first line or that number isn't 0, it is below the number of lines
pub newest-at : (base c : ℕ) (os : List Overflow) → (0 < newest base c os → base ≤ newest base c os)
    × (0 < base + newest base c os → newest base c os < base + length os)
newest-at base c [] = (λ some. omega (arith, some), λ some. omega (arith, some))
newest-at base c (o ∷ os) = grind (arith, common_steps, eqb_tells, newest-at base c os)

-- lines that have the overflow lines' elements have the overflow lines
pub behind-same : (base : ℕ) (lines more : List Line) (os : List Overflow) →
    ((k : ℕ) → base ≤ k → k < base + length os → get_or more k no_line ≡ get_or lines k no_line) →
    AreBehind base lines os → AreBehind base more os
behind-same base lines more [] same are = tt
behind-same base lines more (o ∷ os) same are = grind (arith, common_steps, same (base + length os), behind-same base lines more os (λ k ge lt. same k ge (omega (arith, lt))))

-- writing elsewhere changes no overflow line
pub behind-kept : (base : ℕ) (lines : List Line) (i : ℕ) (x : Line) (os : List Overflow) →
    ((k : ℕ) → base ≤ k → k < base + length os → k ≢ i) → AreBehind base lines os →
    AreBehind base (set lines i x) os
behind-kept base lines i x os out are =
    behind-same base lines (set lines i x) os (λ k ge lt. get_or-set_other lines i k x no_line (out k ge lt)) are

-- an entry is added to the newest overflow line of its class
pub behind-add : (base c n : ℕ) (e : Entry) (lines : List Line) (x : Line) (os : List Overflow) →
    n ≡ newest base c os → 0 < n → base + length os ≤ length lines →
    ((es : List Entry) (next : ℕ) → IsLine (get_or lines n no_line) es next → IsLine x (e ∷ es) next) →
    AreBehind base lines os → AreBehind base (set lines n x) (add c e os)
behind-add base c n e lines x [] is some le put are = tt
behind-add base c n e lines x (o ∷ os) is some le put are =
    elim (eqb_tells o.0 c) [
      | inl h ↦
          (let here : n ≡ base + length os = rw h.0 at is in
          rw h.0 (
            rw (here, get_or-set_same lines (base + length os) x no_line (omega (arith, le)))
                (put o.1 (newest base o.0 os) (rw here are.0)),
            behind-kept base lines n x os (λ k ge lt same. omega (arith, here, lt, same)) are.1,
          ))
      | inr h ↦
          (let there : n ≡ newest base c os = rw h.0 at is in
          let other : base + length os ≢ n = λ same. omega (arith, there, some, same, (newest-at base c os).1) in
          rw h.0 (
            rw (add-length c e os, newest-add base o.0 c e os, get_or-set_other lines n (base + length os) x no_line other) are.0,
            behind-add base c n e lines x os there some (omega (arith, le)) put are.1,
          ))
    ]

-- a first line is written
pub chains-first : (base c : ℕ) (lines : List Line) (f g : ℕ → List Entry) (os : List Overflow) (x : Line) →
    c < base → AreChains base lines f os → ((k : ℕ) → k ≢ c → g k ≡ f k) →
    IsLine x (g c) (newest base c os) → AreChains base (set lines c x) g os
chains-first base c lines f g os x within are others is =
    let inside : c < length lines = omega (arith, within, are.size) in
    record {
      size = length-set lines c x ∙ are.size;
      firsts_are = λ k lt. elim (cases_eq k c) [
        | inl same ↦ rw (same, get_or-set_same lines c x no_line inside) is
        | inr other ↦ rw (get_or-set_other lines c k x no_line other, others k other) (are.firsts_are k lt)
      ];
      behind = behind-kept base lines c x os (λ k ge lt same. omega (arith, ge, within, same)) are.behind;
    }

-- a new overflow line
pub chains-new : (base c : ℕ) (e : Entry) (lines : List Line) (f : ℕ → List Entry) (os : List Overflow)
    (x y : Line) → c < base → AreChains base lines f os → IsLine x (e ∷ []) (newest base c os) →
    IsLine y (f c) (length lines) → AreChains base (set (lines ++ x ∷ []) c y) f ((c, e ∷ []) ∷ os)
chains-new base c e lines f os x y within are first leads =
    let more = lines ++ x ∷ [] in
    let long : length more ≡ length lines + 1 = length-append lines (x ∷ []) in
    let apart : base + length os ≢ c = λ same. omega (arith, within, same) in
    record {
      size = length-set more c y ∙ omega (arith, long, are.size);
      firsts_are = grind (arith, common_steps);
      behind = (
        grind (arith, common_steps, get_or-set_other more c (base + length os) y no_line apart, get_or-append_seam lines x [] no_line, are.size, first),
        behind-same base lines (set more c y) os (λ k ge lt.
            get_or-set_other more c k y no_line (λ same. omega (arith, ge, within, same))
            ∙ get_or_append_left lines (x ∷ []) no_line k (omega (arith, lt, are.size))) are.behind,
      );
    }

-- a line that was read
pub read-line : (lines : List Line) (i : ℕ) (x : Line) (es : List Entry) (next : ℕ) → i < length lines →
    x ≡ get_or lines i x → IsLine (get_or lines i no_line) es next → IsLine x es next
read-line lines i x es next lt e is = grind (arith, common_steps, get_or_default lines i no_line x lt)
