-- What is no cost of a search or of an interning.
use Rattle.intaglio.proofs.Names.{common_steps, Key, State, AreDistinct}
use Rattle.std.proofs.Common.{◌≡◌, ◌≢◌, ℕ, suc, ◌+◌, ◌<◌, List, [], ◌∷◌, ◌++◌, None, length, All, length-append, refl, ap, arith, Contains}
use Rattle.std.proofs.lemmas.List.Elements.{All-nil, All-cons, All-head, All-tail, All-same}
use Rattle.intaglio_content.specs.Work.{Event, hashed, compared, placed}
use Rattle.intaglio_interner.specs.Cost.{hashed_keys, sought_keys, stored_keys, placed_count}
use Rattle.intaglio_interner.proofs.Growth.{added-hashes, adding-places, placed_count-append}
use Rattle.intaglio_interner.proofs.InOrder.{hashed_keys-append}
use Rattle.intaglio.specs.Costly.{SearchesAreCheap, InterningsAreCheap}

-- how many keys are hashed by events, one after the other
hashings-sum : (a b : List Event) →
    length (hashed_keys (a ++ b)) ≡ length (hashed_keys a) + length (hashed_keys b)
hashings-sum a b = rw (hashed_keys-append a b) (length-append (hashed_keys a) (hashed_keys b))

-- events with two hashings among them have more than one hashed key
two-hashings : (x y : Key) (a b c : List Event) → 1 < length (hashed_keys (a ++ hashed x ∷ b ++ hashed y ∷ c))
two-hashings x y a b c = grind (arith, common_steps, hashings-sum)

module _ (P : Key → Type 0) where
  hashed-holds : (x : Key) (a b : List Event) → All P (hashed_keys (a ++ hashed x ∷ b)) → P x
  hashed-holds x [] b h = All-head P x (hashed_keys b) h
  hashed-holds x (hashed k ∷ a) b h = hashed-holds x a b (All-tail P k (hashed_keys (a ++ hashed x ∷ b)) h)
  hashed-holds x (_ ∷ a) b h = hashed-holds x a b h

  sought-holds : (x y : Key) (a b : List Event) → All P (sought_keys (a ++ compared x y ∷ b)) → P x
  sought-holds x y [] b h = All-head P x (sought_keys b) h
  sought-holds x y (compared k l ∷ a) b h =
      sought-holds x y a b (All-tail P k (sought_keys (a ++ compared x y ∷ b)) h)
  sought-holds x y (_ ∷ a) b h = sought-holds x y a b h

  stored-holds : (x y : Key) (a b : List Event) → All P (stored_keys (a ++ compared x y ∷ b)) → P y
  stored-holds x y [] b h = All-head P y (stored_keys b) h
  stored-holds x y (compared k l ∷ a) b h =
      stored-holds x y a b (All-tail P l (stored_keys (a ++ compared x y ∷ b)) h)
  stored-holds x y (_ ∷ a) b h = stored-holds x y a b h

-- where keys are distinct, the first one differs from all others
pairs-head : (x : Key) (xs : List Key) → AreDistinct (x ∷ xs) → All (λ y. x ≢ y) xs
pairs-head x xs h k d lt = h 0 (suc k) d (omega arith) (omega arith)

-- where keys are distinct, those behind the first are distinct too
pairs-tail : (x : Key) (xs : List Key) → AreDistinct (x ∷ xs) → AreDistinct xs
pairs-tail x xs h i j d lt below = h (suc i) (suc j) d (omega arith) (omega arith)

-- if the stored keys of comparisons are distinct, no stored key is compared twice
compared-once : (x x' y : Key) (a b c : List Event) →
    AreDistinct (stored_keys (a ++ compared x y ∷ b ++ compared x' y ∷ c)) → ⊥
compared-once x x' y [] b c h =
    absurd (stored-holds (λ (z : Key). y ≢ z) x' y b c (pairs-head y (stored_keys (b ++ compared x' y ∷ c)) h)
    refl)
compared-once x x' y (compared k l ∷ a) b c h =
    compared-once x x' y a b c (pairs-tail l (stored_keys (a ++ compared x y ∷ b ++ compared x' y ∷ c)) h)
compared-once x x' y (_ ∷ a) b c h = compared-once x x' y a b c h

-- among events with a placement, more than 0 placements are counted
placed-one : (a b : List Event) → 0 < placed_count (a ++ placed ∷ b)
placed-one a b = let sum : placed_count (a ++ placed ∷ b) ≡ placed_count a + (1 + placed_count b) =
    placed_count-append a (placed ∷ b) in omega (arith, sum)

-- a search hashes the sought key alone, and not twice, compares it in its bucket alone, and places no symbol
pub searches-are-cheap : (hash : Key → ℕ) (k : Key) (bucket : List Key) → SearchesAreCheap hash k bucket
searches-are-cheap hash k bucket = record {
  no_second_hashing =
      λ x y a b c is.
      absurd (omega (arith, two-hashings x y a b c, ap (λ (ks : List Key). length ks) is.hashings));
  hashes_sought_key = λ x a b other is.
      absurd (other
      (hashed-holds (λ (z : Key). z ≡ k) x a b
      (All-same (λ (z : Key). z ≡ k) _ (k ∷ []) is.hashings
      (All-cons (λ (z : Key). z ≡ k) k [] refl (All-nil (λ (z : Key). z ≡ k))))));
  compares_sought_key =
      λ x y a b other is. absurd (other (sought-holds (λ (z : Key). z ≡ k) x y a b is.sought));
  stays_in_bucket = λ x y a b outside is. absurd (outside (stored-holds (Contains bucket) x y a b is.within));
  compares_equal_hashes =
      λ x y a b other is.
      absurd (other (stored-holds (λ (z : Key). hash z ≡ hash k) x y a b is.equal_hashes));
  compares_once = λ x x' y a b c is. compared-once x x' y a b c is.once;
  places_nothing = λ a b is. absurd (omega (arith, placed-one a b, is.placements));
}

module _ {C : Type 0} (key : C → Key) (hash : Key → ℕ) (old : State C) (k : Key) (new : State C) where
  -- an interning that adds a content hashes once and places one symbol, and all others again if buckets grew
  pub internings-are-cheap : InterningsAreCheap key hash old k new
  internings-are-cheap = record {
    no_second_hashing =
        λ x y a b c is.
        absurd (omega (
          arith,
          two-hashings x y a b c,
          ap (λ (ks : List Key). length ks) (added-hashes key hash None old new k _ is),
        ));
    places_one = λ same cost is.
        let none : placed_count is.growth ≡ 0 =
        ap (λ (ms : List Event). placed_count ms) (is.grows.only_growth same) in
        let more = adding-places key hash old new k cost is in
        omega (arith, more, none);
    places_each_again = λ grown cost is.
        let again : placed_count is.growth ≡ length old.contents = is.grows.placements grown in
        let more = adding-places key hash old new k cost is in
        omega (arith, more, again);
  }
