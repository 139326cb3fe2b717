-- How often the memory of a table's contents grows over a list of calls.
use Rattle.std.specs.Prelude.{◌≡◌, ℕ, ◌+◌, ◌*◌, ◌^◌, ◌≤◌, ◌==◌, max, if◌then◌else◌, List, [], ◌∷◌, length, All}
use Rattle.intaglio_content.specs.Store.{byte_room, Doubles, DoublesByteRoom}
use Rattle.intaglio_interner.specs.State.{State}
use Rattle.intaglio_interner.specs.Run.{KeepsContents, KeepsRoom}
use Rattle.intaglio_interner.specs.declared.runs.Call.{Call}
use Rattle.intaglio_interner.specs.declared.runs.Call.TheVariants.{Intern, Reserve, ShrinkTo, ShrinkToFit}
use Rattle.intaglio_interner.specs.declared.runs.Reply.{Reply}

-- a table's state, for how many contents its store has room, and for how many more bytes of them
pub record Room (C : Type 0) : Type 0 where
  pub state : State C
  pub most : ℕ
  pub spare_bytes : ℕ

abbrev pub room : {C : Type 0} → State C → ℕ → ℕ → Room C
room state most spare_bytes = record { state = state; most = most; spare_bytes = spare_bytes }

-- how often a number changed between two moments
abbrev pub changes : ℕ → ℕ → ℕ
changes old new = if new == old then 0 else 1

-- the room for bytes in total, by how many a content takes
abbrev pub bytes_of : {C : Type 0} → (C → ℕ) → Room C → ℕ
bytes_of takes r = byte_room takes r.state.contents r.spare_bytes

-- calls with values that need some of the room for bytes
module _ {C Q : Type 0} (takes : C → ℕ) (needs : Q → ℕ) where
  -- one call: only an interning and a reservation make room, and only a shrink gives it up
  abbrev pub CallGrows : Room C → Call Q → Room C → Type 0
  CallGrows old (Intern q) new =
      Doubles (length old.state.contents + 1) old.most new.most
      × DoublesByteRoom takes (needs q) old.state.contents old.spare_bytes new.state.contents
      new.spare_bytes
  CallGrows old (Reserve n) new = Doubles (length old.state.contents + n) old.most new.most
      × (bytes_of takes new ≡ bytes_of takes old)
  CallGrows old (ShrinkTo _) new = Unit {0}
  CallGrows old ShrinkToFit new = Unit {0}
  CallGrows old _ new = (new.most ≡ old.most) × (bytes_of takes new ≡ bytes_of takes old)

  -- calls in order, each a step of the state, in which the room for contents changed g
  -- times and the room for bytes h times
  abbrev pub RunsGrowing : (State C → Call Q → Reply → State C → Type 0) → Room C → List (Call Q) →
      List Reply → ℕ → ℕ → Room C → Type 0
  RunsGrowing IsStep old [] [] g h new = (g ≡ 0) × (h ≡ 0) × (new ≡ old)
  RunsGrowing IsStep old (call ∷ calls) (reply ∷ replies) g h new =
      (next : Room C) × (i j : ℕ) × (g ≡ changes old.most next.most + i)
      × (h ≡ changes (bytes_of takes old) (bytes_of takes next) + j)
      × IsStep old.state call reply next.state × CallGrows old call next
      × RunsGrowing IsStep next calls replies i j new
  RunsGrowing IsStep old _ _ g h new = ⊥

  -- the room for contents changed g times, and the room for bytes h times. Without a shrink they doubled as
  -- often. After internings and look-ups alone there is room for at most twice as many contents as there are,
  -- or 4, or for as many as before. So in internings and look-ups alone the room for n contents grew O(log n)
  -- times
  pub record GrowsSeldom (IsStep : State C → Call Q → Reply → State C → Type 0) (old : Room C)
      (calls : List (Call Q)) (replies : List Reply) (new : Room C) : Type 0 where
    pub g : ℕ
    pub h : ℕ
    pub growths : RunsGrowing IsStep old calls replies g h new
    pub list : All KeepsRoom calls → 2 ^ g * max 1 old.most ≤ max 1 new.most
    pub few : All KeepsContents calls → new.most ≤ max old.most (max 4 (2 * length new.state.contents))
    pub bytes : All KeepsRoom calls → 2 ^ h * max 1 (bytes_of takes old) ≤ max 1 (bytes_of takes new)
