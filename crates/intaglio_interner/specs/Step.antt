-- One call, its reply, and its cost.
use Rattle.std.specs.Prelude.{◌≡◌, ◌≢◌, ℕ, Bool, List, [], length, Option, Some, Ok, Err, is_some, nat_lt, nat_eq, option_map, option_and_then, slice_get, alloc_error, IsSomeAnd}
use Rattle.intaglio_content.specs.Key.{Key}
use Rattle.intaglio_content.specs.Work.{Event}
use Rattle.intaglio_interner.specs.State.{State, first}
use Rattle.intaglio_interner.specs.Change.{InternsValue, Reserves, Shrinks, TakesBack, Empties}
use Rattle.intaglio_interner.specs.Cost.{InternCost, SearchCost, IsRoomCost}
use Rattle.intaglio_symbol.specs.declared.error.InternError.TheVariants as intern_error
use Rattle.intaglio_symbol.specs.declared.error.SymbolOverflowError.{SymbolOverflowError}
use Rattle.intaglio_symbol.specs.declared.error.StaleMark.{StaleMark}
use Rattle.intaglio_symbol.specs.declared.error.RoomError.TheVariants as room_error
use Rattle.intaglio_interner.specs.declared.runs.Call.{Call}
use Rattle.intaglio_interner.specs.declared.runs.Call.TheVariants.{Intern, Check, GetInterned, IsInterned, Contains, Get, Len, IsEmpty, Clear, Reserve, ShrinkTo, ShrinkToFit, TakeBack}
use Rattle.intaglio_interner.specs.declared.runs.Reply.{Reply}
use Rattle.intaglio_interner.specs.declared.runs.Reply.TheVariants as reply

-- the first content with a key, and its position
abbrev pub found : {C : Type 0} → (C → Key) → List C → Key → Option (ℕ × C)
found {C} key cs k =
    option_and_then (λ i. option_map {U = ℕ × C} (λ c. (i, c)) (slice_get cs i)) (first key cs k)

-- what is replied to a look-up of a spelling: a copy of it, whose allocation may fail
abbrev pub RepliesSpelling : {C : Type 0} → (C → List ℕ) → Option C → Reply → Type 0
RepliesSpelling spelling stored (reply.Spelling r) = option_map (λ v. v.items) r ≡ option_map spelling stored
RepliesSpelling spelling stored reply.NoMemory = IsSomeAnd stored (λ c. spelling c ≢ [])
RepliesSpelling spelling stored _ = ⊥

abbrev pub RepliesPair : {C : Type 0} → (C → List ℕ) → Option (ℕ × C) → Reply → Type 0
RepliesPair spelling stored (reply.Pair r) = option_map {U = ℕ × List ℕ} (λ p. (p.0, p.1.items)) r
    ≡ option_map {U = ℕ × List ℕ} (λ p. (p.0, spelling p.1)) stored
RepliesPair spelling stored reply.NoMemory = IsSomeAnd stored (λ p. spelling p.1 ≢ [])
RepliesPair spelling stored _ = ⊥

-- to a reservation, a shrink and a rollback
abbrev pub RepliesReserved : {C : Type 0} → State C → ℕ → Reply → State C → Type 0
RepliesReserved old n reply.Done new = Reserves old n (Ok tt) new
RepliesReserved old n reply.CapacityOverflow new = Reserves old n (Err room_error.CapacityOverflow) new
RepliesReserved old n reply.NoMemory new = Reserves old n (Err (room_error.Memory alloc_error)) new
RepliesReserved old n _ new = ⊥

abbrev pub RepliesShrunk : {C : Type 0} → State C → ℕ → Reply → State C → Type 0
RepliesShrunk old n reply.Done new = Shrinks old n (Ok tt) new
RepliesShrunk old n reply.NoMemory new = Shrinks old n (Err (room_error.Memory alloc_error)) new
RepliesShrunk old n _ new = ⊥

abbrev pub RepliesTakenBack : {C : Type 0} → State C → ℕ → Reply → State C → Type 0
RepliesTakenBack old n reply.Done new = TakesBack old n (Ok tt) new
RepliesTakenBack old n reply.Stale new = (e : StaleMark) → TakesBack old n (Err e) new
RepliesTakenBack old n _ new = ⊥

-- calls with values of type Q, by their keys
module _ {C Q : Type 0} (key : C → Key) (value_key : Q → Key) where
  -- and by what a list of contents becomes with each, and whether it is copied
  module _ (spelling : C → List ℕ) (adds : Q → List C → List C → Type 0) (copies : Bool) where
    -- one call, its reply, and the states before and after it
    abbrev pub Step : State C → Call Q → Reply → State C → Type 0
    Step old (Intern q) (reply.Symbol (Some i)) new =
        InternsValue key (adds q) copies old (value_key q) (Ok i) new
    Step old (Intern q) reply.Overflow new = (e : SymbolOverflowError) →
        InternsValue key (adds q) copies old (value_key q) (Err (intern_error.Overflow e)) new
    Step old (Intern q) reply.NoMemory new =
        InternsValue key (adds q) copies old (value_key q) (Err (intern_error.Memory alloc_error)) new
    Step old (Check q) (reply.Symbol r) new = (r ≡ first key old.contents (value_key q)) × (new ≡ old)
    Step old (GetInterned q) r new = RepliesPair spelling (found key old.contents (value_key q)) r
        × (new ≡ old)
    Step old (IsInterned q) (reply.Bool r) new =
        (r ≡ is_some (first key old.contents (value_key q))) × (new ≡ old)
    Step old (Contains s) (reply.Bool r) new = (r ≡ nat_lt s (length old.contents)) × (new ≡ old)
    Step old (Get s) r new = RepliesSpelling spelling (slice_get old.contents s) r × (new ≡ old)
    Step old Len (reply.Count n) new = (n ≡ length old.contents) × (new ≡ old)
    Step old IsEmpty (reply.Bool r) new = (r ≡ nat_eq (length old.contents) 0) × (new ≡ old)
    Step old Clear reply.Done new = Empties old new
    Step old (Reserve n) r new = RepliesReserved old n r new
    Step old (ShrinkTo n) r new = RepliesShrunk old n r new
    Step old ShrinkToFit r new = RepliesShrunk old 0 r new
    Step old (TakeBack n) r new = RepliesTakenBack old n r new
    Step old _ _ new = ⊥

  -- what one call adds to the events
  abbrev pub StepCost : (Key → ℕ) → State C → Call Q → Reply → State C → List Event → Type 0
  StepCost hash old (Intern q) (reply.Symbol (Some i)) new cost =
      InternCost key hash old (value_key q) (Ok i) new cost
  StepCost hash old (Intern q) _ new cost = SearchCost key hash old (value_key q) cost
  StepCost hash old (Check q) _ new cost = SearchCost key hash old (value_key q) cost
  StepCost hash old (GetInterned q) _ new cost = SearchCost key hash old (value_key q) cost
  StepCost hash old (IsInterned q) _ new cost = SearchCost key hash old (value_key q) cost
  StepCost hash old (Reserve n) _ new cost = IsRoomCost old cost
  StepCost hash old (ShrinkTo n) _ new cost = IsRoomCost old cost
  StepCost hash old ShrinkToFit _ new cost = IsRoomCost old cost
  StepCost hash old _ _ new cost = cost ≡ []
