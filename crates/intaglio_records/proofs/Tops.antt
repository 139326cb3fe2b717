-- How many overflow lines there are: every eleventh entry of a class makes one.
use Rattle.intaglio_records.proofs.Names.{common_steps, cases_eq, cases_lt, lt-ltb, cond-false, eq-eqb, ne_eqb, eqb_tells, Entry, Overflow, first_line, newest_length, add, overflow, newest}
use Rattle.std.proofs.Common.{◌≡◌, ◌≢◌, ◌⊎◌, ℕ, zero, suc, ◌+◌, ◌*◌, ◌%◌, ◌<◌, ◌≤◌, ◌==◌, List, [], ◌∷◌, length, cond, refl, sym, arith, inl, mod-lt}
use Rattle.intaglio_records.proofs.ChainLemmas.{add-length, newest-add}

-- what an entry does to the first lines and the overflow lines
pub first-other : (base k : ℕ) (e : Entry) (es : List Entry) → k ≢ e.0 % base →
    first_line base k (e ∷ es) ≡ first_line base k es
first-other base k e es other = rw (ne_eqb (e.0 % base) k (λ same. other (sym same))) refl

-- an entry is added to the first line of its class, if that isn't full
pub first-here : (base : ℕ) (e : Entry) (es : List Entry) → length (first_line base (e.0 % base) es) < 11 →
    first_line base (e.0 % base) (e ∷ es) ≡ e ∷ first_line base (e.0 % base) es
first-here base e es lt = grind (arith, common_steps, eq-eqb, lt-ltb)

-- if the first line of its class is full, an entry changes no first line
pub first-full : (base : ℕ) (e : Entry) (es : List Entry) → 11 ≤ length (first_line base (e.0 % base) es) →
    (k : ℕ) → first_line base k (e ∷ es) ≡ first_line base k es
first-full base e es full k = grind (arith, common_steps)

-- if the first line of its class isn't full, an entry changes no overflow line
pub overflow-same : (base : ℕ) (e : Entry) (es : List Entry) → length (first_line base (e.0 % base) es) < 11 →
    overflow base (e ∷ es) ≡ overflow base es
overflow-same base e es lt = rw (lt-ltb (length (first_line base (e.0 % base) es)) 11 lt) refl

-- an entry that doesn't fit the first line of its class is added to the newest overflow line if it fits that
pub overflow-add : (base : ℕ) (e : Entry) (es : List Entry) → 11 ≤ length (first_line base (e.0 % base) es) →
    newest_length (e.0 % base) (overflow base es) < 11 →
    overflow base (e ∷ es) ≡ add (e.0 % base) e (overflow base es)
overflow-add base e es full lt = grind (arith, common_steps)

-- an entry that fits neither the first nor the newest overflow line of its class makes a new overflow line
pub overflow-new : (base : ℕ) (e : Entry) (es : List Entry) → 11 ≤ length (first_line base (e.0 % base) es) →
    11 ≤ newest_length (e.0 % base) (overflow base es) →
    overflow base (e ∷ es) ≡ (e.0 % base, e ∷ []) ∷ overflow base es
overflow-new base e es full none = grind (arith, common_steps)

-- what an entry does to the overflow lines
pub ruleset spilling = (common_steps, cases_lt, overflow-same, overflow-add, overflow-new)

-- the newest overflow line of a class
length-other : (k c : ℕ) (e : Entry) (os : List Overflow) → k ≢ c →
    newest_length k (add c e os) ≡ newest_length k os
length-other k c e [] other = refl
length-other k c e (o ∷ os) other = grind (arith, common_steps, eqb_tells, length-other k c e os other)

-- an entry that is added to the newest overflow line of its class makes that longer by one
pub length-here : (base c : ℕ) (e : Entry) (os : List Overflow) → 0 < newest base c os →
    newest_length c (add c e os) ≡ suc (newest_length c os)
length-here base c e [] some = absurd (omega (arith, some))
length-here base c e (o ∷ os) some = grind (arith, common_steps, eqb_tells, length-here base c e os)

-- if there is a first line, and the newest overflow line of a class has number 0, it counts as full
pub length-none : (base c : ℕ) (os : List Overflow) → 0 < base → newest base c os ≡ 0 →
    newest_length c os ≡ 11
length-none base c [] some none = refl
length-none base c (o ∷ os) some none = grind (arith, common_steps, eqb_tells, length-none base c os some)

-- one more entry doesn't change which overflow line of another class is the newest
newest-other : (base k : ℕ) (e : Entry) (es : List Entry) → k ≢ e.0 % base →
    newest base k (overflow base (e ∷ es)) ≡ newest base k (overflow base es)
newest-other base k e es other = grind (arith, spilling, newest-add, cond-false, ne_eqb)

-- one more entry doesn't change how many entries the newest overflow line of another class has
newest_length-other : (base k : ℕ) (e : Entry) (es : List Entry) → k ≢ e.0 % base →
    newest_length k (overflow base (e ∷ es)) ≡ newest_length k (overflow base es)
newest_length-other base k e es other = grind (arith, spilling, length-other, cond-false, ne_eqb)

-- how many entries the line has that takes the next entry of a class, or that is full
abbrev pub top : ℕ → ℕ → List Entry → ℕ
top base c [] = 0
top base c (e ∷ es) =
    cond (e.0 % base == c) (cond (top base c es == 11) 1 (suc (top base c es))) (top base c es)

-- it is the first line, if there is no overflow line of the class, or the newest of these
abbrev pub IsTop : ℕ → ℕ → List Entry → Type 0
IsTop base c es =
    ((newest base c (overflow base es) ≡ 0) × (length (first_line base c es) ≡ top base c es))
    ⊎ ((0 < newest base c (overflow base es)) × (length (first_line base c es) ≡ 11)
    × (newest_length c (overflow base es) ≡ top base c es))

-- one more entry doesn't change how many entries the top line of another class has
top-other : (base k : ℕ) (e : Entry) (es : List Entry) → k ≢ e.0 % base → top base k (e ∷ es) ≡ top base k es
top-other base k e es other = rw (ne_eqb (e.0 % base) k (λ same. other (sym same))) refl

-- if the top line of a class has eleven entries, the top line after one more entry has one
pub top-full : (base : ℕ) (e : Entry) (es : List Entry) → top base (e.0 % base) es ≡ 11 →
    top base (e.0 % base) (e ∷ es) ≡ 1
top-full base e es full = grind (arith, common_steps, eq-eqb)

-- if the top line of a class doesn't have eleven entries, the top line after one more entry has one more
pub top-more : (base : ℕ) (e : Entry) (es : List Entry) → top base (e.0 % base) es ≢ 11 →
    top base (e.0 % base) (e ∷ es) ≡ suc (top base (e.0 % base) es)
top-more base e es room = grind (arith, common_steps, eq-eqb, ne_eqb)

-- a top line has at most eleven entries
pub top-few : (base c : ℕ) (es : List Entry) → top base c es ≤ 11
top-few base c [] = omega arith
top-few base c (e ∷ es) = grind (arith, common_steps, eqb_tells, top-few base c es)

-- an entry of the class itself
top-here : (base : ℕ) (e : Entry) (es : List Entry) → 0 < base → IsTop base (e.0 % base) es →
    IsTop base (e.0 % base) (e ∷ es)
top-here base e es some old = grind (arith, spilling, top-few, first-here, first-full, top-full, top-more, length-none, newest-add, length-here)

-- if there is a first line, the top line of a class is its newest overflow line, or its first if it has none
pub is-top : (base c : ℕ) (es : List Entry) → 0 < base → IsTop base c es
is-top base c [] some = inl (refl, refl)
is-top base c (e ∷ es) some = grind (arith, common_steps, cases_eq c (e.0 % base), is-top base c es some, top-here, newest-other, first-other, top-other, newest_length-other)

-- the sum of f below n
abbrev total : (ℕ → ℕ) → ℕ → ℕ
total f zero = 0
total f (suc n) = f n + total f n

-- functions that are equal below n have the same sum below n
total-same : (f g : ℕ → ℕ) (n : ℕ) → ((k : ℕ) → k < n → f k ≡ g k) → total f n ≡ total g n
total-same f g zero same = refl
total-same f g (suc n) same = grind (arith, common_steps, same n, total-same f g n)

-- if f and g are equal but at c, which is below n, their sums below n differ as their values at c
total-change : (f g : ℕ → ℕ) (c n : ℕ) → ((k : ℕ) → k ≢ c → f k ≡ g k) → c < n →
    total f n + g c ≡ total g n + f c
total-change f g c zero same lt = omega (arith, lt)
total-change f g c (suc n) same lt = grind (arith, common_steps, total-same, cases_eq n c, same n, total-change f g c n same)

-- a value at a number below n is at most the sum below n
total-ge : (f : ℕ → ℕ) (c n : ℕ) → c < n → f c ≤ total f n
total-ge f c zero lt = omega (arith, lt)
total-ge f c (suc n) lt = grind (arith, common_steps, cases_eq n c, total-ge f c n)

-- a sum of zeros is 0
total-none : (n : ℕ) → total (λ c. 0) n + 0 ≡ 0
total-none zero = refl
total-none (suc n) = grind (arith, common_steps, total-none n)

-- an entry more
grown : (base : ℕ) (e : Entry) (es : List Entry) → 0 < base →
    top base (e.0 % base) (e ∷ es) + 11 * length (overflow base (e ∷ es))
    ≡ suc (top base (e.0 % base) es + 11 * length (overflow base es))
grown base e es some =
    grind (arith, spilling, is-top base (e.0 % base) es some, add-length, top-more, length-none, top-full, top-few)

-- the lines that aren't full, and eleven for each overflow line
pub counted : (base : ℕ) (es : List Entry) → 0 < base →
    length es ≡ total (λ c. top base c es) base + 11 * length (overflow base es)
counted base [] some = sym (total-none base)
counted base (e ∷ es) some = omega (arith, total-change (λ k. top base k (e ∷ es)) (λ k. top base k es) (e.0 % base) base (λ k. top-other base k e es) (mod-lt e.0 some), counted base es some, grown base e es some)

-- if a new overflow line is needed, there are eleven entries for each, and for this one too
pub needed : (base c : ℕ) (es : List Entry) → 0 < base → c < base → top base c es ≡ 11 →
    11 * length (overflow base es) + 11 ≤ length es
needed base c es some within full =
    omega (arith, counted base es some, total-ge (λ k. top base k es) c base within, full)
