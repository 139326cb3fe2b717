-- The order of a bucket, by the hashes alone.
use Rattle.intaglio_index.proofs.Names.{common_steps, Contains, AllByRecursion, cond_both, eqb-true, ltb-true, ltb-false, le-ltb, lt-ltb, eq-eqb, ne_eqb, get_or_at, append-nil, All-from_recursion, Contains-append_right, members, Placed, chain_from, places_from, insert_sorted, symbols_of, AreSorted, BeginsAtOrAbove, IsPredecessor, IsEntry, IsBucket}
use Rattle.std.proofs.Common.{◌≡◌, ◌≢◌, ℕ, zero, suc, ◌+◌, ◌<◌, ◌≤◌, ◌%◌, Bool, true, false, cond, List, [], ◌∷◌, ◌++◌, length, get_or, refl, sym, ap, ◌∙◌, arith, eqb, ltb, length-append, append_assoc}
use Rattle.std.specs.List.{IsDistinct}
use Rattle.std.specs.List.Sorted.{IsPermutation}
use Rattle.std.proofs.lemmas.List.Kept.{AllPairs-cons}
use Rattle.std.proofs.lemmas.List.Sorted.{IsPermutation-refl, IsPermutation-trans, IsPermutation-middle, IsPermutation-sym, IsPermutation-cons, IsPermutation-append_right, Contains-permutation}
use Rattle.std.proofs.lemmas.Map.Keys.{IsDistinct-IsPermutation}
use Rattle.intaglio_index.specs.Placed.{chain}

-- the test of two numbers for equality is symmetric
pub eqb-flips : (a b : ℕ) → eqb a b ≡ eqb b a
eqb-flips a b = grind (arith, common_steps)

-- if P implies Q and holds of each element of a list, so does Q
pub Each-so : {X : Type 0} (P Q : X → Type 0) (xs : List X) → AllByRecursion P xs →
    ((x : X) → P x → Q x) → AllByRecursion Q xs
Each-so P Q [] h f = tt
Each-so P Q (x ∷ xs) h f = (f x h.0, Each-so P Q xs h.1 f)

-- the same with the implication first
pub Each-weaker : {X : Type 0} (P Q : X → Type 0) → ((x : X) → P x → Q x) → (xs : List X) →
    AllByRecursion P xs → AllByRecursion Q xs
Each-weaker P Q f xs h = Each-so P Q xs h f

-- what holds of each element of an append holds of each of the second list
pub Each-right : {X : Type 0} (P : X → Type 0) (xs ys : List X) → AllByRecursion P (xs ++ ys) →
    AllByRecursion P ys
Each-right P [] ys h = h
Each-right P (x ∷ xs) ys h = Each-right P xs ys h.1

-- what holds of each symbol holds of that of an entry
pub symbol-at : (P : ℕ → Type 0) (front : List (ℕ × ℕ)) (e : ℕ × ℕ) (behind : List (ℕ × ℕ)) →
    AllByRecursion P (symbols_of (front ++ e ∷ behind)) → P e.0
symbol-at P [] e behind h = h.0
symbol-at P (x ∷ front) e behind h = symbol-at P front e behind h.1

-- what holds of each element of two lists holds of each of their append
pub Each-append : {X : Type 0} (P : X → Type 0) (xs ys : List X) → AllByRecursion P xs → AllByRecursion P ys →
    AllByRecursion P (xs ++ ys)
Each-append P [] ys h k = k
Each-append P (x ∷ xs) ys h k = (h.0, Each-append P xs ys h.1 k)

-- what put keeps of each entry
insert_sorted-each : (P : ℕ × ℕ → Type 0) (s h : ℕ) (es : List (ℕ × ℕ)) → P (s, h) → AllByRecursion P es →
    AllByRecursion P (insert_sorted s h es)
insert_sorted-each P s h [] p a = (p, tt)
insert_sorted-each P s h (e ∷ es) p a =
    cond_both (ltb e.1 h) (e ∷ insert_sorted s h es) ((s, h) ∷ e ∷ es) (AllByRecursion P)
    (λ t. (a.0, insert_sorted-each P s h es p a.1)) (λ t. (p, a))

-- where the front part is smaller and the rest is not, put goes between
pub insert_sorted-between : (s h : ℕ) (before behind : List (ℕ × ℕ)) →
    AllByRecursion (λ (e : ℕ × ℕ). e.1 < h) before → BeginsAtOrAbove h behind →
    insert_sorted s h (before ++ behind) ≡ before ++ (s, h) ∷ behind
insert_sorted-between s h [] [] a l = refl
insert_sorted-between s h [] (e ∷ es) a l = rw (le-ltb e.1 h l) refl
insert_sorted-between s h (e ∷ es) behind a l =
    rw (lt-ltb e.1 h a.0, insert_sorted-between s h es behind a.1 l) refl

-- a symbol is inserted directly behind the predecessor for its hash
pub put-behind : (s h : ℕ) (path : List (ℕ × ℕ)) (last : ℕ) (pred : IsPredecessor h path last) →
    insert_sorted s h path ≡ pred.front ++ (last, pred.hash) ∷ (s, h) ∷ pred.behind
put-behind s h path last pred =
    ap (insert_sorted s h) pred.split ∙ simp append_assoc at (insert_sorted-between s h
    (pred.front ++ (last, pred.hash) ∷ []) pred.behind pred.smaller pred.others)

-- a list with a symbol inserted isn't empty
pub put-some : (s h : ℕ) (es : List (ℕ × ℕ)) → insert_sorted s h es ≡ [] → ⊥
put-some s h [] e = cc
put-some s h (x ∷ xs) e =
    cond_both (ltb x.1 h) _ _ (λ (ys : List (ℕ × ℕ)). ys ≡ [] → ⊥) (λ t q. cc) (λ t q. cc) e

-- one more hash at the end
chain_from-push : (count b at : ℕ) (met : List (ℕ × ℕ)) (hs : List ℕ) (h : ℕ) →
    chain_from count b at met (hs ++ h ∷ [])
    ≡ cond (eqb (h % count) b) (insert_sorted (at + length hs) h (chain_from count b at met hs))
    (chain_from count b at met hs)
chain_from-push count b at met [] h = let e : at + 0 ≡ at = omega arith in rw e refl
chain_from-push count b at met (y ∷ ys) h =
    let e : (at + 1) + length ys ≡ at + suc (length ys) = omega arith in
    rw (← e) (chain_from-push count b (at + 1) (cond (eqb (y % count) b) (insert_sorted at y met) met) ys h)

-- with one more hash, its symbol is inserted into the chain of its bucket, and no other chain changes
pub chain-push : (count b : ℕ) (hs : List ℕ) (h : ℕ) → chain_from count b 0 [] (hs ++ h ∷ [])
    ≡ cond (eqb (h % count) b) (insert_sorted (length hs) h (chain_from count b 0 [] hs))
    (chain_from count b 0 [] hs)
chain-push count b hs h = let zero : 0 + length hs ≡ length hs = omega arith in
    rw zero at (chain_from-push count b 0 [] hs h)

-- the hash's own bucket has one symbol more, and the others stay
pub chain-grows : (count : ℕ) (hs : List ℕ) (h : ℕ) → chain_from count (h % count) 0 [] (hs ++ h ∷ [])
    ≡ insert_sorted (length hs) h (chain_from count (h % count) 0 [] hs)
chain-grows count hs h = chain-push count (h % count) hs h ∙ rw (eq-eqb (h % count) (h % count) refl) refl

-- one more hash doesn't change the chain of another bucket
pub chain-stays : (count b : ℕ) (hs : List ℕ) (h : ℕ) → b ≢ h % count →
    chain_from count b 0 [] (hs ++ h ∷ []) ≡ chain_from count b 0 [] hs
chain-stays count b hs h other = chain-push count b hs h ∙ rw (ne_eqb (h % count) b (λ e. other (sym e))) refl

-- if those met so far are entries of a bucket, so are all after the rest of the hashes are added
chain_from-each : (count b : ℕ) (all before hs : List ℕ) (met : List (ℕ × ℕ)) → all ≡ before ++ hs →
    AllByRecursion (IsEntry count b all) met →
    AllByRecursion (IsEntry count b all) (chain_from count b (length before) met hs)
chain_from-each count b all before [] met e a = a
chain_from-each count b all before (h ∷ hs) met e a =
    let cases : (t : Bool) → eqb (h % count) b ≡ t →
    AllByRecursion (IsEntry count b all) (cond t (insert_sorted (length before) h met) met) = grind (arith, common_steps, insert_sorted-each, length-append, get_or_at, eqb-true) in
    rw (← length-append before (h ∷ [])) (chain_from-each count b all (before ++ h ∷ []) hs _
    (e ∙ sym (append_assoc before (h ∷ []) hs)) (cases (eqb (h % count) b) refl))

-- each entry of a chain is a placed symbol of its bucket with its hash
pub chain-each : (count b : ℕ) (hs : List ℕ) →
    AllByRecursion (IsEntry count b hs) (chain_from count b 0 [] hs)
chain-each count b hs = chain_from-each count b hs [] hs [] refl tt

-- from an entry on, each entry of a chain is one of its bucket
pub chain-entry : (count b : ℕ) (hs : List ℕ) (front : List (ℕ × ℕ)) (e : ℕ × ℕ) (behind : List (ℕ × ℕ)) →
    chain_from count b 0 [] hs ≡ front ++ e ∷ behind → AllByRecursion (IsEntry count b hs) (e ∷ behind)
chain-entry count b hs front e behind split =
    Each-right (IsEntry count b hs) front (e ∷ behind) (rw split at (chain-each count b hs))

-- a chain has the places of its bucket
insert_sorted-permutation : (s h : ℕ) (es : List (ℕ × ℕ)) →
    IsPermutation (s ∷ symbols_of es) (symbols_of (insert_sorted s h es))
insert_sorted-permutation s h [] = IsPermutation-refl (s ∷ [])
insert_sorted-permutation s h (e ∷ es) = cond_both (ltb e.1 h) (e ∷ insert_sorted s h es) ((s, h) ∷ e ∷ es)
    (λ (ys : List (ℕ × ℕ)). IsPermutation (s ∷ e.0 ∷ symbols_of es) (symbols_of ys)) (λ t.
    IsPermutation-trans _ _ _ (IsPermutation-sym _ _ (IsPermutation-middle (e.0 ∷ []) s (symbols_of es)))
    (IsPermutation-cons e.0 _ _ (insert_sorted-permutation s h es))) (λ t. IsPermutation-refl _)

-- the symbols of a chain are the places of its bucket and the symbols met before, in some order
chain_from-permutation : (count b at : ℕ) (met : List (ℕ × ℕ)) (hs : List ℕ) →
    IsPermutation (places_from count b at hs ++ symbols_of met) (symbols_of (chain_from count b at met hs))
chain_from-permutation count b at met [] = IsPermutation-refl (symbols_of met)
chain_from-permutation count b at met (h ∷ hs) =
    elim (eqb (h % count) b) as
    (λ t. IsPermutation (cond t (at ∷ places_from count b (at + 1) hs) (places_from count b (at + 1) hs)
    ++ symbols_of met)
    (symbols_of (chain_from count b (at + 1) (cond t (insert_sorted at h met) met) hs))) [
      | true ↦ IsPermutation-trans _ _ _ (IsPermutation-trans _ _ _ (IsPermutation-sym _ _
          (IsPermutation-middle (places_from count b (at + 1) hs) at (symbols_of met)))
          (IsPermutation-append_right (places_from count b (at + 1) hs) _ _
          (insert_sorted-permutation at h met)))
          (chain_from-permutation count b (at + 1) (insert_sorted at h met) hs)
      | false ↦ chain_from-permutation count b (at + 1) met hs
    ]

-- the symbols of a bucket's chain are its members, in some order
chain-places : (count b : ℕ) (hs : List ℕ) →
    IsPermutation (places_from count b 0 hs) (symbols_of (chain_from count b 0 [] hs))
chain-places count b hs =
    rw (append-nil (places_from count b 0 hs)) at (chain_from-permutation count b 0 [] hs)

-- the places of a bucket are distinct
places-above : (count b at : ℕ) (hs : List ℕ) → AllByRecursion (λ s. at ≤ s) (places_from count b at hs)
places-above count b at [] = tt
places-above count b at (h ∷ hs) =
    let rest = Each-so _ (λ s. at ≤ s) _ (places-above count b (at + 1) hs) (λ s l. omega arith) in
    cond_both (eqb (h % count) b) (at ∷ places_from count b (at + 1) hs) (places_from count b (at + 1) hs)
    (AllByRecursion (λ s. at ≤ s)) (λ t. (omega arith, rest)) (λ t. rest)

-- no place of a bucket occurs twice
places-distinct : (count b at : ℕ) (hs : List ℕ) → IsDistinct eqb (places_from count b at hs)
unfolding IsDistinct
places-distinct count b at [] = tt
places-distinct count b at (h ∷ hs) =
    let rest = places-distinct count b (at + 1) hs in
    let apart : AllByRecursion (λ y. eqb at y ≡ false) (places_from count b (at + 1) hs) =
    Each-so _ _ _ (places-above count b (at + 1) hs) (λ s l. ne_eqb at s (λ e. omega arith)) in
    cond_both (eqb (h % count) b) (at ∷ places_from count b (at + 1) hs) (places_from count b (at + 1) hs)
    (IsDistinct eqb) (λ t. (apart, rest)) (λ t. rest)

-- no symbol occurs twice on a chain
pub chain-distinct : (count b : ℕ) (hs : List ℕ) → IsDistinct eqb (symbols_of (chain_from count b 0 [] hs))
chain-distinct count b hs =
    IsDistinct-IsPermutation eqb eqb-flips _ _ (chain-places count b hs) (places-distinct count b 0 hs)

-- the hashes along a chain do not decrease
abbrev pub InOrder : List (ℕ × ℕ) → Type 0
InOrder [] = Unit {0}
InOrder (e ∷ es) = AllByRecursion (λ (f : ℕ × ℕ). e.1 ≤ f.1) es × InOrder es

-- if hashes don't decrease along a list, they don't after an insertion either
insert_sorted-in-order : (s h : ℕ) (es : List (ℕ × ℕ)) → InOrder es → InOrder (insert_sorted s h es)
insert_sorted-in-order s h [] o = (tt, tt)
insert_sorted-in-order s h (e ∷ es) o =
    cond_both (ltb e.1 h) (e ∷ insert_sorted s h es) ((s, h) ∷ e ∷ es) InOrder (λ is. (
      insert_sorted-each (λ f. e.1 ≤ f.1) s h es (omega (arith, ltb-true e.1 h is)) o.0,
      insert_sorted-in-order s h es o.1,
    )) (λ is. (let le : h ≤ e.1 = ltb-false e.1 h is in (
      (le, Each-so _ _ es o.0 (λ f l. omega arith)),
      o,
    )))

-- if hashes don't decrease along the entries met so far, they don't after more hashes are added
chain_from-in-order : (count b at : ℕ) (met : List (ℕ × ℕ)) (hs : List ℕ) → InOrder met →
    InOrder (chain_from count b at met hs)
chain_from-in-order count b at met [] o = o
chain_from-in-order count b at met (h ∷ hs) o = chain_from-in-order count b (at + 1) _ hs
    (cond_both (eqb (h % count) b) (insert_sorted at h met) met InOrder
    (λ t. insert_sorted-in-order at h met o) (λ t. o))

-- a list along which the hashes don't decrease is sorted: of each two entries the first has no greater hash
sorted-from-order : (es : List (ℕ × ℕ)) → InOrder es → AreSorted es
sorted-from-order [] o = λ i j d l lj. absurd (omega arith)
sorted-from-order (e ∷ es) o =
    AllPairs-cons (λ (e f : ℕ × ℕ). e.1 ≤ f.1) e es (All-from_recursion (λ (f : ℕ × ℕ). e.1 ≤ f.1) es o.0)
    (sorted-from-order es o.1)

-- the hashes along a bucket's chain don't decrease
pub chain-in-order : (v : Placed) (b : ℕ) → InOrder (chain v b)
unfolding chain
chain-in-order v b = chain_from-in-order v.count b 0 [] v.hashes tt

-- the symbols of a bucket's chain are its members, in some order
pub chain-permutation : (v : Placed) (b : ℕ) → IsPermutation (members v b) (symbols_of (chain v b))
unfolding chain
chain-permutation v b = chain-places v.count b v.hashes

-- behind an entry no hash is smaller
pub InOrder-behind : (front : List (ℕ × ℕ)) (e : ℕ × ℕ) (behind : List (ℕ × ℕ)) →
    InOrder (front ++ e ∷ behind) → AllByRecursion (λ (f : ℕ × ℕ). e.1 ≤ f.1) behind
InOrder-behind [] e behind o = o.0
InOrder-behind (x ∷ front) e behind o = InOrder-behind front e behind o.1

-- each entry of a bucket's chain is a placed symbol of the bucket with its hash
pub chain-entries : (v : Placed) (b : ℕ) → AllByRecursion (IsEntry v.count b v.hashes) (chain v b)
unfolding chain
chain-entries v b = chain-each v.count b v.hashes

-- the chain of a hash's bucket has exactly the symbols of the bucket, each once, in the order of their hashes
pub chain-bucket : (v : Placed) (h : ℕ) → IsBucket v h
unfolding chain
chain-bucket v h = record {
  members = chain-places v.count (h % v.count) v.hashes;
  sorted = sorted-from-order _ (chain-in-order v (h % v.count));
  hashes = chain-each v.count (h % v.count) v.hashes;
}

-- each place of a bucket is on its chain
pub places-complete : (count b at : ℕ) (hs : List ℕ) (i d : ℕ) → i < length hs → get_or hs i d % count ≡ b →
    Contains (places_from count b at hs) (at + i)
places-complete count b at [] i d l e = absurd (omega arith)
places-complete count b at (h ∷ hs) zero d l e = rw (eq-eqb (h % count) b e) (0, omega arith, omega arith)
places-complete count b at (h ∷ hs) (suc i) d l e =
    let rest : Contains (places_from count b (at + 1) hs) (at + suc i) =
    (let z : at + suc i ≡ (at + 1) + i = omega arith in
    rw z (places-complete count b (at + 1) hs i d (omega arith) e)) in
    cond_both (eqb (h % count) b) (at ∷ places_from count b (at + 1) hs) (places_from count b (at + 1) hs)
    (λ (ps : List ℕ). Contains ps (at + suc i)) (λ t. Contains-append_right (at ∷ []) _ _ rest) (λ t. rest)

-- a placed symbol whose hash falls in a bucket is on the chain of that bucket
pub chain-complete : (count b : ℕ) (hs : List ℕ) (i : ℕ) → i < length hs → get_or hs i 0 % count ≡ b →
    Contains (symbols_of (chain_from count b 0 [] hs)) i
chain-complete count b hs i l e =
    let z : 0 + i ≡ i = omega arith in
    Contains-permutation _ _ i (chain-places count b hs) (rw z at (places-complete count b 0 hs i 0 l e))

-- a list of entries that has a symbol is split at an entry with it
pub entry-split : (es : List (ℕ × ℕ)) (s : ℕ) → Contains (symbols_of es) s → (before : List (ℕ × ℕ))
    × (e : ℕ × ℕ) × (behind : List (ℕ × ℕ)) × (es ≡ before ++ e ∷ behind) × (e.0 ≡ s)
entry-split [] s h = absurd (omega (arith, h.1))
entry-split (x ∷ xs) s (zero, l, q) = ([], x, xs, refl, q)
entry-split (x ∷ xs) s (suc k, l, q) =
    let r = entry-split xs s (k, omega arith, q) in (x ∷ r.0, r.1, r.2, ap (λ ys. x ∷ ys) r.3, r.4)

-- what put put in stands behind the smaller hashes, and the rest is what was there
pub unput : (s h : ℕ) (es front behind : List (ℕ × ℕ)) → insert_sorted s h es ≡ front ++ behind →
    AllByRecursion (λ (e : ℕ × ℕ). e.1 < h) front → BeginsAtOrAbove h behind →
    (rest : List (ℕ × ℕ)) × (behind ≡ (s, h) ∷ rest) × (es ≡ front ++ rest)
unput s h [] [] behind e a l = ([], sym e, refl)
unput s h [] (f ∷ fs) behind e a l =
    (let q : f ≡ (s, h) = cc in absurd (omega (arith, ap (λ (y : ℕ × ℕ). y.1) q, a.0)))
unput s h (x ∷ xs) [] behind e a l =
    let cases : (t : Bool) → ltb x.1 h ≡ t → cond t (x ∷ insert_sorted s h xs) ((s, h) ∷ x ∷ xs) ≡ behind →
    (rest : List (ℕ × ℕ)) × (behind ≡ (s, h) ∷ rest) × (x ∷ xs ≡ rest) = grind (arith, common_steps) in
    cases (ltb x.1 h) refl e
unput s h (x ∷ xs) (f ∷ fs) behind e a l =
    cond_both (ltb x.1 h) _ _ (λ (ys : List (ℕ × ℕ)). ys ≡ f ∷ fs ++ behind →
    (rest : List (ℕ × ℕ)) × (behind ≡ (s, h) ∷ rest) × (x ∷ xs ≡ f ∷ fs ++ rest)) (λ t e'.
    (let r = unput s h xs fs behind (cc) a.1 l in (r.0, r.1, (let q : xs ≡ fs ++ r.0 = r.2 in cc)))) (λ t e'.
    (let q : f ≡ (s, h) = cc in absurd (omega (arith, ap (λ (y : ℕ × ℕ). y.1) q, a.0)))) e

-- where no hash was placed each bucket is empty
pub none-placed : (v : Placed) (b : ℕ) → v.hashes ≡ [] → chain v b ≡ []
unfolding chain
none-placed v b none = rw none refl
