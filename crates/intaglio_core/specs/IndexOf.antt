-- What contracts see of an index over a list, and what its calls do.
use Rattle.std.specs.Prelude.{◌≡◌, ℕ, ◌*◌, ◌<◌, ◌≤◌, min, max, replicate, List, [], ◌∷◌, ◌++◌, length, map}
use Rattle.intaglio_content.specs.Key.{Key}
use Rattle.intaglio_content.specs.declared.work.Work.{Work}
use Rattle.intaglio_content.specs.Work.{Event, hashed, placed}
use Rattle.intaglio_index.specs.Placed.{Placed}
use Rattle.intaglio_interner.specs.State.{first}
use Rattle.intaglio_interner.specs.Cost.{bucket_keys, IsSearchCost, IsRecorded}

-- the hashes by which the contents were added, in their order; how many contents it can hold; and
-- for how many it was made. Contents whose hashes are equal modulo the places share a bucket, as
-- far as the cost of a search is stated
pub record IndexState : Type 0 where
  pub hashes : List ℕ
  pub room : ℕ
  pub places : ℕ

-- a list is what another one was, but for room that it gave up: for contents, or for their bytes
pub record HasLessRoom {L C : Type 0} (contents : L → List C) (hashes : L → List ℕ) (most spare_bytes : L →
    ℕ) (new old : L) : Type 0 where
  pub same_contents : contents new ≡ contents old
  pub same_hashes : hashes new ≡ hashes old
  pub no_more : most new ≤ most old
  pub no_more_bytes : spare_bytes new ≤ spare_bytes old

-- an index is over some list of which this is true
abbrev pub IsOverSome : {L : Type 0} → (L → Type 0) → (L → Type 0) → Type 0
IsOverSome {L} over P = (list : L) × over list × P list

-- an index is seen over a list as it was over those of which this is true
abbrev pub KeepsState : {L : Type 0} → (L → IndexState) → (L → Type 0) → (L → Type 0) → L → Type 0
KeepsState {L} state over P new = (list : L) → over list → P list → state new ≡ state list

-- nothing is indexed, and the index is made for this many
abbrev pub empty_index : ℕ → IndexState
empty_index n = record { hashes = []; room = n; places = n }

-- the contents were added by the hashes of their keys, and this is the hash of the sought key
pub record AreHashed {C : Type 0} (key : C → Key) (hash : Key → ℕ) (contents : List C) (given : List ℕ)
    (k : Key) (known : ℕ) : Type 0 where
  pub stored : given ≡ map (λ c. hash (key c)) contents
  pub sought : known ≡ hash k

-- there is a function by which they were hashed
abbrev pub IsHashed : {C : Type 0} → (C → Key) → List C → List ℕ → Key → ℕ → Type 0
IsHashed key contents given k known = (hash : Key → ℕ) × AreHashed key hash contents given k known

-- what a search by a known hash records, in an index that was made for this many
abbrev pub LookupCost : {C : Type 0} → (C → Key) → (Key → ℕ) → List C → ℕ → Key → List Event → Type 0
LookupCost key hash contents places k cost =
    IsSearchCost hash k (bucket_keys hash places (map key contents) k) (hashed k ∷ cost)
    × IsRecorded k (first key contents k) (hashed k ∷ cost)

-- the entries stay, and the room isn't less
pub record KeepsEntries (old new : IndexState) : Type 0 where
  pub hashes : new.hashes ≡ old.hashes
  pub room : old.room ≤ new.room
  pub fits : new.room ≤ new.places

-- there is room for more than n contents. If the index held as many as it was made for, it grew,
-- and all entries were placed again
pub record FindsRoom (n limit : ℕ) (old new : IndexState) (before after : Work) : Type 0 where
  pub free : n < new.room
  pub kept : n < old.places → new.places ≡ old.places
  pub quiet : n < old.places → after.events ≡ before.events
  pub grown : old.places ≤ n → new.places ≡ min limit (max 4 (2 * old.places))
  pub placed_again : old.places ≤ n → after.events ≡ before.events ++ replicate n placed

-- out of memory, where room for more than n contents was missing
pub record FindsNoRoom (n capacity : ℕ) (old new : IndexState) (before after : Work) : Type 0 where
  pub full : min capacity old.room ≤ n
  pub kept : new.places ≡ old.places
  pub quiet : after.events ≡ before.events

-- at most n entries were placed again, and nothing else was recorded
pub record PlacesAtMost (n : ℕ) (before after : Work) : Type 0 where
  pub again : ℕ
  pub few : again ≤ n
  pub events : after.events ≡ before.events ++ replicate again placed

-- what contracts see of an `Index` over a list
abbrev pub state_of : Placed → IndexState
state_of index = record { hashes = index.hashes; room = index.room; places = index.count }

-- an `Index` has a hash for each of n contents
abbrev pub IsOver : ℕ → Placed → Type 0
IsOver n index = length index.hashes ≡ n
