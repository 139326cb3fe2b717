-- What a search or an interning cannot cost.
use Rattle.std.specs.Prelude.{◌≡◌, ◌≢◌, ℕ, ◌+◌, List, ◌∷◌, ◌++◌, length, Contains}
use Rattle.intaglio_content.specs.Key.{Key}
use Rattle.intaglio_content.specs.Work.{Event, hashed, compared, placed}
use Rattle.intaglio_interner.specs.State.{State}
use Rattle.intaglio_interner.specs.Cost.{placed_count, IsSearchCost, IsAddingCost}

-- a search for a key, whose bucket holds these keys, whatever other events it leaves
pub record SearchesAreCheap (hash : Key → ℕ) (k : Key) (bucket : List Key) : Type 0 where
  pub no_second_hashing : (x y : Key) (a b c : List Event) →
      IsSearchCost hash k bucket (a ++ hashed x ∷ b ++ hashed y ∷ c) → ⊥
  pub hashes_sought_key : (x : Key) (a b : List Event) → x ≢ k →
      IsSearchCost hash k bucket (a ++ hashed x ∷ b) → ⊥
  pub compares_sought_key : (x y : Key) (a b : List Event) → x ≢ k →
      IsSearchCost hash k bucket (a ++ compared x y ∷ b) → ⊥
  pub stays_in_bucket : (x y : Key) (a b : List Event) → (Contains bucket y → ⊥) →
      IsSearchCost hash k bucket (a ++ compared x y ∷ b) → ⊥
  pub compares_equal_hashes : (x y : Key) (a b : List Event) → hash y ≢ hash k →
      IsSearchCost hash k bucket (a ++ compared x y ∷ b) → ⊥
  pub compares_once : (x x' y : Key) (a b c : List Event) →
      IsSearchCost hash k bucket (a ++ compared x y ∷ b ++ compared x' y ∷ c) → ⊥
  pub places_nothing : (a b : List Event) → IsSearchCost hash k bucket (a ++ placed ∷ b) → ⊥

-- an interning that adds its content
pub record InterningsAreCheap {C : Type 0} (key : C → Key) (hash : Key → ℕ) (old : State C) (k : Key)
    (new : State C) : Type 0 where
  pub no_second_hashing : (x y : Key) (a b c : List Event) →
      IsAddingCost key hash old k new (a ++ hashed x ∷ b ++ hashed y ∷ c) → ⊥
  pub places_one : new.buckets ≡ old.buckets → (cost : List Event) → IsAddingCost key hash old k new cost →
      placed_count cost ≡ 1
  pub places_each_again : new.buckets ≢ old.buckets → (cost : List Event) →
      IsAddingCost key hash old k new cost → placed_count cost ≡ length old.contents + 1
