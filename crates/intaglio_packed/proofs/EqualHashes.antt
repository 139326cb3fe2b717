-- The numbers that a search by records gives are those of the contents with the hash.
use Rattle.intaglio_packed.proofs.Names.{common_steps, eq-eqb, lt-ltb, get_or-map, Contains-append_right, get_or_default_zero, Key, AreEqualHashes, one_of, AreAll}
use Rattle.std.proofs.Common.{◌≡◌, ◌≢◌, ℕ, zero, ◌<◌, ◌≤◌, ◌==◌, ◌&&◌, nat_lt, Bool, true, false, cond, List, [], ◌∷◌, length, map, get_or, refl, sym, ap, ◌∙◌, arith, inl, inr}
use Rattle.std.specs.List.{All, AllPairs, Contains, sum_by}
use Rattle.std.proofs.lemmas.Bool.Decides.{eqb_tells}
use Rattle.std.proofs.lemmas.List.Sums.{sum_by-cons}
use Rattle.std.proofs.lemmas.List.Kept.{AllPairs-cons}

-- how often a number is in a list, where it is
positive : (i : ℕ) (xs : List ℕ) (at : ℕ) → at < length xs → get_or xs at 0 ≡ i → 0 < sum_by (one_of i) xs
positive i xs at l e = grind (arith, common_steps)

-- and where it is, if it is there
contained : (i : ℕ) (xs : List ℕ) → 0 < sum_by (one_of i) xs → Contains xs i
contained i [] some = absurd (omega (arith, some))
contained i (x ∷ xs) some = elim (eqb_tells x i) [
  | inl e ↦ (zero, omega arith, e.1)
  | inr n ↦
      (let none : one_of i x ≡ 0 = rw (n.0) refl in
      Contains-append_right (x ∷ []) xs i
      (contained i xs (omega (arith, some, sum_by-cons (one_of i) x xs, none))))
]

-- numbers that are there once at most
apart-once : (xs : List ℕ) → ((i : ℕ) → sum_by (one_of i) xs ≤ 1) → AllPairs (λ i j. i ≢ j) xs
apart-once [] once = λ i j d l lj. absurd (omega (arith, lj))
apart-once (x ∷ xs) once =
    let one : one_of x x ≡ 1 = rw (eq-eqb x x refl) refl in
    let none : sum_by (one_of x) xs ≡ 0 = omega (arith, once x, sum_by-cons (one_of x) x xs, one) in
    let others : All (λ j. x ≢ j) xs = grind (arith, common_steps) in
    AllPairs-cons (λ i j. i ≢ j) x xs others
    (apart-once xs (λ i. omega (arith, once i, sum_by-cons (one_of i) x xs)))

-- a count that is 1 or 0, by a test, is at most 1
one-at-most : (b : Bool) → cond b 1 0 ≤ 1
one-at-most true = omega arith
one-at-most false = omega arith

-- a position that the test for those below n with the known hash counts is below n and has that hash
tells : (i n h known : ℕ) → 0 < cond (nat_lt i n && (h == known)) 1 0 → (i < n) × (h ≡ known)
tells i n h known some = grind (arith, common_steps)

-- the numbers that a search by records gives are those of the contents with the hash
pub equal-hashes : (hash : Key → ℕ) (keys : List Key) (k : Key) (xs : List (ℕ × List ℕ)) (known : ℕ)
    (numbers : List ℕ) → map (λ (p : ℕ × List ℕ). p.0) xs ≡ map hash keys → known ≡ hash k
    → AreAll xs known numbers → AreEqualHashes hash keys k numbers
equal-hashes hash keys k xs known numbers same is all =
    let size : length xs ≡ length keys = grind (arith, common_steps) in
    let hash_is : (i : ℕ) → i < length keys → (get_or xs i (0, [])).0 ≡ hash (get_or keys i []) = λ i l.
    (let lx : i < length xs = omega (arith, l, size) in
    sym (get_or-map (λ (p : ℕ × List ℕ). p.0) xs i (0, []) 0 lx) ∙ ap (λ hs. get_or hs i 0) same
    ∙ get_or-map hash keys i [] 0 l) in
    record {
      apart = grind (arith, common_steps, apart-once, one-at-most, nat_lt);
      each = λ at d l.
          (let i = get_or numbers at d in
          let there : 0 < sum_by (one_of i) numbers = grind (arith, common_steps, positive, get_or_default_zero) in
          let told = tells i (length xs) (get_or xs i (0, [])).0 known (rw (all i) at there) in
          let within : i < length keys = omega (arith, told.0, size) in
          (within, sym (hash_is i within) ∙ told.1 ∙ is));
      every = grind (arith, common_steps, contained, lt-ltb, eq-eqb);
    }
