-- Positions of walks along a bucket, and their ends.
use Rattle.std.specs.Prelude.{◌≡◌, ℕ, ◌+◌, ◌<◌, ◌≤◌, List, [], ◌∷◌, ◌++◌, length, replicate, Option, MatchOption}
use Rattle.std.specs.List.{AllByRecursion}
use Rattle.intaglio_content.specs.Work.{Event, step}
use Rattle.intaglio_index.specs.Placed.{head_of}

-- the first symbol with a hash, and a step for each symbol up to it
pub record IsFound (h : ℕ) (path : List (ℕ × ℕ)) (old new : List Event) (symbol : ℕ) : Type 0 where
  pub front : List (ℕ × ℕ)
  pub behind : List (ℕ × ℕ)
  pub split : path ≡ front ++ (symbol, h) ∷ behind
  pub smaller : AllByRecursion (λ (e : ℕ × ℕ). e.1 < h) front
  pub events : new ≡ old ++ replicate (length front + 1) step

-- a step, and at most one for each symbol
pub record IsPassed (path : List (ℕ × ℕ)) (old new : List Event) : Type 0 where
  pub more : ℕ
  pub few : more ≤ length path
  pub events : new ≡ old ++ replicate (more + 1) step

-- the first two symbols, of which this is the second, have smaller hashes
pub record IsBehind (h : ℕ) (path : List (ℕ × ℕ)) (second : ℕ) : Type 0 where
  pub first : ℕ × ℕ
  pub hash : ℕ
  pub rest : List (ℕ × ℕ)
  pub split : path ≡ first ∷ (second, hash) ∷ rest
  pub first_smaller : first.1 < h
  pub smaller : hash < h

-- a walk that has reached a candidate: the symbols before it have smaller hashes
pub record HasPassed (h : ℕ) (path : List (ℕ × ℕ)) (candidate : Option (ℕ × ℕ)) : Type 0 where
  pub front : List (ℕ × ℕ)
  pub rest : List (ℕ × ℕ)
  pub split : path ≡ front ++ rest
  pub next : candidate ≡ head_of rest
  pub smaller : AllByRecursion (λ (e : ℕ × ℕ). e.1 < h) front

-- a search that has reached a candidate, in a step for each symbol up to it
pub record IsReached (h : ℕ) (path : List (ℕ × ℕ)) (old now : List Event)
    (candidate : Option (ℕ × ℕ)) : Type 0 where
  pub walk : HasPassed h path candidate
  pub events : now ≡ old ++ replicate (length walk.front + 1) step

-- the position of the search for the predecessor
pub record IsAt (h : ℕ) (path : List (ℕ × ℕ)) (last : Option ℕ) (candidate : Option (ℕ × ℕ)) : Type 0 where
  pub walk : HasPassed h path candidate
  pub last_is : MatchOption last (walk.front ≡ []) (λ p. (init : List (ℕ × ℕ)) × (hash : ℕ)
      × (walk.front ≡ init ++ (p, hash) ∷ []))
