-- A list of calls, made in order, and what holds over all of it.
use Rattle.std.specs.Prelude.{◌≡◌, ◌≢◌, Bool, true, false, ℕ, ◌+◌, ◌*◌, ◌<◌, ◌≤◌, List, [], ◌∷◌, length, Some, All, map, sum_by}
use Rattle.intaglio_content.specs.Key.{Key}
use Rattle.intaglio_content.specs.Store.{IsMoved}
use Rattle.intaglio_content.specs.Work.{Event}
use Rattle.intaglio_content.specs.Store.{byte_room}
use Rattle.intaglio_interner.specs.State.{State, IsValid}
use Rattle.intaglio_interner.specs.Change.{HasNoLessRoom}
use Rattle.intaglio_interner.specs.Cost.{InOrder, hashed_keys, placed_count}
use Rattle.intaglio_interner.specs.Issue.{issue}
use Rattle.intaglio_interner.specs.Step.{Step, StepCost}
use Rattle.intaglio_interner.specs.declared.runs.Call.{Call}
use Rattle.intaglio_interner.specs.declared.runs.Call.TheVariants.{Intern, Check, GetInterned, IsInterned, Clear, Reserve, ShrinkTo, ShrinkToFit, TakeBack}
use Rattle.intaglio_interner.specs.declared.runs.Reply.{Reply}
use Rattle.intaglio_interner.specs.declared.runs.Reply.TheVariants as reply

-- calls with values of type Q, by their keys, by what a list of contents becomes with
-- each, and whether it is copied
module _ {C Q : Type 0} (key : C → Key) (value_key : Q → Key) (spelling : C → List ℕ) (adds : Q → List C →
    List C → Type 0) (copies : Bool) (hash : Key → ℕ) where
  -- one call, with its reply and its cost, which leaves a valid state
  abbrev pub IsCall : State C → Call Q → Reply → List Event → State C → Type 0
  IsCall old call reply cost new =
      Step key value_key spelling adds copies old call reply new
      × StepCost key value_key hash old call reply new cost × IsValid key new

  -- calls in order, from one state to another
  abbrev pub RunsValues : State C → List (Call Q) → List Reply → List Event → State C → Type 0
  RunsValues = InOrder IsCall

-- calls with contents
abbrev pub Runs : {C : Type 0} → (C → Key) → (C → List ℕ) → (Key → ℕ) → State C → List (Call C) → List Reply →
    List Event → State C → Type 0
Runs key spelling hash = RunsValues key key spelling IsMoved false hash

module _ {C : Type 0} (key : C → Key) where
  -- the keys of the contents that calls look for
  abbrev pub searched_keys : List (Call C) → List Key
  searched_keys [] = []
  searched_keys (Intern c ∷ calls) = key c ∷ searched_keys calls
  searched_keys (Check c ∷ calls) = key c ∷ searched_keys calls
  searched_keys (GetInterned c ∷ calls) = key c ∷ searched_keys calls
  searched_keys (IsInterned c ∷ calls) = key c ∷ searched_keys calls
  searched_keys (_ ∷ calls) = searched_keys calls

-- the sought keys alone are hashed, each once, in the order of the calls
abbrev pub HashesOnce : {C : Type 0} → (C → Key) → List (Call C) → List Event → Type 0
HashesOnce key calls cost = hashed_keys cost ≡ searched_keys key calls

-- an interning or a look-up
abbrev pub KeepsContents : {C : Type 0} → Call C → Type 0
KeepsContents Clear = ⊥
KeepsContents (Reserve _) = ⊥
KeepsContents (ShrinkTo _) = ⊥
KeepsContents ShrinkToFit = ⊥
KeepsContents (TakeBack _) = ⊥
KeepsContents _ = Unit {0}

-- over internings and look-ups, the placements and the contents before are together at most three times the
-- contents after. So from an empty table, at most three symbols are placed for each content that is added
abbrev pub PlacesFew : {C Q : Type 0} → State C → List (Call Q) → State C → List Event → Type 0
PlacesFew old calls new cost =
    All KeepsContents calls → placed_count cost + length old.contents ≤ 3 * length new.contents

-- a call that doesn't shrink the capacity
abbrev pub KeepsRoom : {C : Type 0} → Call C → Type 0
KeepsRoom (ShrinkTo _) = ⊥
KeepsRoom ShrinkToFit = ⊥
KeepsRoom _ = Unit {0}

-- such calls don't lower the capacity
abbrev pub HoldsRoom : {C Q : Type 0} → State C → List (Call Q) → State C → Type 0
HoldsRoom old calls new = All KeepsRoom calls → HasNoLessRoom old new

-- internings of no more values than the spare capacity never run out of memory, if none is copied
abbrev pub HonoursRoom : {C Q : Type 0} → Bool → State C → List (Call Q) → List Reply → Type 0
HonoursRoom {C} {Q} false old calls replies =
    (qs : List Q) → calls ≡ map Intern qs → length qs ≤ old.spare → All (λ r. r ≢ reply.NoMemory) replies
HonoursRoom true old calls replies = Unit {0}

-- such calls don't lower the room for bytes in total: only what is added takes some
abbrev pub HoldsBytes : {C Q : Type 0} → (C → ℕ) → State C → ℕ → List (Call Q) → State C → ℕ → Type 0
HoldsBytes takes old bytes calls new bytes' =
    All KeepsRoom calls → byte_room takes old.contents bytes ≤ byte_room takes new.contents bytes'

-- internings by forms, of no more than the spare capacity, never run out of memory, if copies are made in the
-- store's own room and it has the bytes that all forms need
abbrev pub HonoursFormRoom : {C Q : Type 0} → (Q → ℕ) → Type 0 → State C → ℕ → List (Call Q) →
    List Reply → Type 0
HonoursFormRoom {C} {Q} needs in_store old bytes calls replies =
    (qs : List Q) → calls ≡ map Intern qs → length qs ≤ old.spare → in_store → sum_by needs qs ≤ bytes
    → All (λ r. r ≢ reply.NoMemory) replies

-- one interning by a form takes at most the bytes that it needs, and where there is room
-- for one it doesn't run out of memory
abbrev pub UsesRoom : {C Q : Type 0} → (Q → ℕ) → Type 0 → State C → ℕ → Call Q → Reply → ℕ → Type 0
UsesRoom needs in_store old bytes (Intern q) r bytes' =
    (bytes ≤ bytes' + needs q) × (0 < old.spare → in_store → needs q ≤ bytes → r ≢ reply.NoMemory)
UsesRoom needs in_store old bytes _ r bytes' = Unit {0}

-- a reply that is an error
abbrev pub IsRefusal : Reply → Type 0
IsRefusal reply.Overflow = Unit {0}
IsRefusal reply.NoMemory = Unit {0}
IsRefusal _ = ⊥

-- internings alone, none of which fails, into an empty table reply the issued symbols
abbrev pub IssuesInOrder : {C Q : Type 0} → (Q → Key) → State C → List (Call Q) → List Reply → Type 0
IssuesInOrder {C} {Q} key old calls replies =
    (qs : List Q) → old.contents ≡ [] → calls ≡ map Intern qs → All (λ r. ¬ IsRefusal r) replies
    → replies ≡ map (λ i. reply.Symbol (Some i)) (issue key qs)
