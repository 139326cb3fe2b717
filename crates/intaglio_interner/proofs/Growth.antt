-- What a run hashes and places, the room that it keeps, and the symbols that it issues.
use Rattle.intaglio_interner.proofs.Names.{common_steps, ◌≡◌, ◌≢◌, ℕ, suc, ◌+◌, ◌*◌, ◌<◌, ◌≤◌, Bool, true, false, List, [], ◌∷◌, ◌++◌, length, map, All, Option, Some, None, Ok, Err, Result, alloc_error, MatchOption, inl, inr, refl, ap, arith, cases_eq, All-cons, Key, IsAddedOne, Event, placed, State, first, IsAdded, IsRefused, hashed_keys, placed_count, SearchCost, IsAddingCost, Step, StepCost, RunsValues, KeepsContents, HonoursRoom, searched_keys, InternError, Call, Intern, Reply, HasNoLessRoom, KeepsRoom, Clear, Reserve, TakeBack, length-map, ◌∙◌, sym, unwrap_or, is_some, cond, issued, interned, issue_from, issue, IsRefusal}
use Rattle.intaglio_interner.proofs.InOrder.{hashed_keys-append}
use Rattle.intaglio_interner.proofs.Room.{IsKept, same-kept, fails-kept, added-length, interns-sizes}
use Rattle.intaglio_interner.proofs.LookUps.{look-up-same, look-up-places, interns-as}
use Rattle.intaglio_interner.proofs.Bytes.{intern-spare}
use Rattle.intaglio_interner.proofs.Issue.{added-as, shows-key}
use Rattle.intaglio_symbol.specs.declared.error.InternError.TheVariants as error
use Rattle.intaglio_interner.specs.declared.runs.Reply.TheVariants as reply

-- the number of placements in events and others behind them is the sum of the numbers in both
pub placed_count-append : (a b : List Event) → placed_count (a ++ b) ≡ placed_count a + placed_count b
placed_count-append [] b = omega arith
placed_count-append (placed ∷ a) b = omega (arith, placed_count-append a b)
placed_count-append (_ ∷ a) b = placed_count-append a b

-- g symbols have been placed again at most, where buckets can still grow at most as many as there are buckets
pub record Holds {C : Type 0} (s : State C) (g : ℕ) : Type 0 where
  pub below : s.buckets < s.limit → g ≤ s.buckets
  pub twice : g ≤ 2 * length s.contents

-- a step that makes p placements, by what has been placed again before and after it
pub record Goes {C : Type 0} (old next : State C) (p g : ℕ) : Type 0 where
  pub later : ℕ
  pub holds : Holds next later
  pub spent : g + p + length old.contents ≤ later + length next.contents

kept : {C : Type 0} {old next : State C} {p g : ℕ} → IsKept old next → p ≡ 0 → Holds old g →
    Goes old next p g
kept {g = g} is none h = let size = ap length is.contents in record {
  later = g;
  holds = record { below = λ lt. omega (arith, h.below); twice = omega arith };
  spent = omega arith;
}

module _ {C : Type 0} (key : C → Key) (hash : Key → ℕ) where
  -- an added content is placed once, beside the placements of a growth
  pub adding-places : (old next : State C) (k : Key) (now : List Event)
      (cost : IsAddingCost key hash old k next now) → placed_count now ≡ placed_count cost.growth + 1
  adding-places old next k now cost =
      simp (cost.parts, placed_count-append) (omega (arith, cost.searches.0.placements))

  -- an interning hashes its key, and nothing else
  pub added-hashes : (o : Option ℕ) (old next : State C) (k : Key) (now : List Event)
      → MatchOption o (IsAddingCost key hash old k next now) (λ _. SearchCost key hash old k now) →
      hashed_keys now ≡ k ∷ []
  added-hashes None old next k now cost =
      simp (cost.parts, hashed_keys-append, cost.searches.0.hashings, cost.grows.hashings)
  added-hashes (Some j) old next k now cost = cost.0.hashings

-- an interning gives the symbol of a key, the first one or the next, and the key is held after it
abbrev pub IsIssued : {C : Type 0} → (C → Key) → State C → Key → ℕ → State C → Type 0
IsIssued key old k i new =
    let o = first key old.contents k in
    (i ≡ unwrap_or o (length old.contents))
    × (map key new.contents ≡ cond (is_some o) (map key old.contents) (map key old.contents ++ k ∷ []))

-- the keys that are held after an interning
same-held : {Q : Type 0} (form_key : Q → Key) (held : List Q) (q : Q) →
    cond (is_some (first form_key held (form_key q))) (map form_key held) (map form_key held ++ form_key q ∷ [])
    ≡ map form_key (interned form_key held q)
same-held form_key held q = grind (arith, common_steps)

module _ {C Q : Type 0} (key : C → Key) (value_key : Q → Key) (spelling : C → List ℕ) (adds : Q → List C →
    List C → Type 0) (copies : Bool) (one : (q : Q) (a b : List C) → adds q a b →
    IsAddedOne key (value_key q) a b) (hash : Key → ℕ) where
  answered : (o : Option ℕ) (old next : State C) (q : Q) (i g : ℕ) (now : List Event)
      → MatchOption o (IsAdded (adds q) old i next) (λ j. (◌≡◌ {A = Result ℕ InternError} (Ok i) (Ok j))
      × (next ≡ old))
      → MatchOption o (IsAddingCost key hash old (value_key q) next now)
      (λ _. SearchCost key hash old (value_key q) now) → Holds old g → Goes old next (placed_count now) g
  answered None old next q i g now taken cost h =
      let size = added-length copies (one q) old next i taken in
      let parts = adding-places key hash old next (value_key q) now cost in
      elim (cases_eq next.buckets old.buckets) [
        | inl same ↦
            let nothing : placed_count cost.growth ≡ 0 = rw (cost.grows.only_growth same) refl in record {
              later = g;
              holds = record { below = λ lt. omega (arith, h.below); twice = omega arith };
              spent = omega arith;
            }
        | inr differ ↦ let again = cost.grows.placements differ in let full = taken.growth differ in record {
          later = g + length old.contents;
          holds = record { below = λ lt. omega (arith, h.below); twice = omega (arith, h.below) };
          spent = omega arith;
        }
      ]
  answered (Some j) old next q i g now found cost h =
      kept (same-kept old next found.1) cost.0.placements h

  -- an interning or a look-up
  call-goes : (old next : State C) (call : Call Q) (r : Reply) (now : List Event) (g : ℕ) →
      KeepsContents call → Step key value_key spelling adds copies old call r next →
      StepCost key value_key hash old call r next now → Holds old g → Goes old next (placed_count now) g
  call-goes old next (Intern q) (reply.Symbol (Some i)) now g keep made cost h =
      answered (first key old.contents (value_key q)) old next q i g now made cost h
  call-goes old next (Intern q) reply.Overflow now g keep made cost h =
      kept (fails-kept key (adds q) copies (value_key q) (first key old.contents (value_key q)) old next
      (error.Overflow (record { private = tt })) (made (record { private = tt }))) cost.0.placements h
  call-goes old next (Intern q) reply.NoMemory now g keep made cost h =
      kept (fails-kept key (adds q) copies (value_key q) (first key old.contents (value_key q)) old next
      (error.Memory alloc_error) made) cost.0.placements h
  call-goes old next (Intern q) _ now g keep made cost h = absurd made
  call-goes old next call r now g keep made cost h =
      kept (same-kept old next (look-up-same key value_key spelling adds copies old next call r keep made))
      (look-up-places key value_key spelling adds copies hash old next call r now keep cost) h

  -- placements and contents before are at most three times the contents after
  places : (old new : State C) (calls : List (Call Q)) (replies : List Reply) (cost : List Event) (g : ℕ) →
      All KeepsContents calls → Holds old g →
      RunsValues key value_key spelling adds copies hash old calls replies cost new
      → g + placed_count cost + length old.contents ≤ 3 * length new.contents
  places old new (call ∷ calls) (r ∷ replies) cost g all h run =
      let one = call-goes old run.0 call r run.1 g (all 0 call (omega arith)) run.4.0 run.4.1 h in
      let rest = places run.0 new calls replies run.2 one.later (λ k d lt. all (suc k) d (omega arith))
      one.holds run.5 in
      rw (run.3, placed_count-append run.1 run.2) (omega (arith, one.spent, rest))
  places old new _ _ cost g all h run = grind (arith, common_steps)

  -- so at the beginning of a run, where nothing was placed again
  pub Runs-places : (old new : State C) (calls : List (Call Q)) (replies : List Reply) (cost : List Event) →
      All KeepsContents calls →
      RunsValues key value_key spelling adds copies hash old calls replies cost new
      → placed_count cost + length old.contents ≤ 3 * length new.contents
  Runs-places old new calls replies cost all run =
      let none : Holds old 0 = record { below = λ lt. omega arith; twice = omega arith } in
      omega (arith, places old new calls replies cost 0 all none run)

  -- a call hashes the key that it looks for
  step-hashes : (old next : State C) (call : Call Q) (r : Reply) (now : List Event) (calls : List (Call Q)) →
      StepCost key value_key hash old call r next now →
      hashed_keys now ++ searched_keys value_key calls ≡ searched_keys value_key (call ∷ calls)
  step-hashes old next (Intern q) (reply.Symbol (Some i)) now calls cost =
      rw (added-hashes key hash (first key old.contents (value_key q)) old next (value_key q) now cost) refl
  step-hashes old next (Intern q) _ now calls cost = rw cost.0.hashings refl
  step-hashes old next _ r now calls cost = grind (arith, common_steps)

  -- a run hashes the keys that its calls look for, in their order, and nothing else
  pub Runs-hash : (old new : State C) (calls : List (Call Q)) (replies : List Reply) (cost : List Event) →
      RunsValues key value_key spelling adds copies hash old calls replies cost new
      → hashed_keys cost ≡ searched_keys value_key calls
  Runs-hash old new (call ∷ calls) (r ∷ replies) cost run =
      rw (run.3, hashed_keys-append run.1 run.2, Runs-hash run.0 new calls replies run.2 run.5)
      (step-hashes old run.0 call r run.1 calls run.4.1)
  Runs-hash old new _ _ cost run = grind (arith, common_steps)

  -- room that was there stays, but for calls that shrink
  call-roomier : (old next : State C) (call : Call Q) (r : Reply) → KeepsRoom call →
      Step key value_key spelling adds copies old call r next → HasNoLessRoom old next
  call-roomier old next (Intern q) r keep made = let interns =
      interns-as key value_key spelling adds copies old next q r made in
      (interns-sizes copies (one q) old next interns.0 interns.1).0
  call-roomier old next (Reserve n) reply.Stale keep made = absurd made
  call-roomier old next (Reserve n) _ keep made = grind (arith, common_steps)
  call-roomier old next Clear reply.Stale keep made = absurd made
  call-roomier old next Clear _ keep made = grind (arith, common_steps)
  call-roomier old next (TakeBack n) reply.Stale keep made =
      rw (made (record { private = tt })).1 (omega arith)
  call-roomier old next (TakeBack n) _ keep made = grind (arith, common_steps)
  call-roomier old next call r keep made =
      rw (look-up-same key value_key spelling adds copies old next call r keep made) (omega arith)

  -- capacity doesn't fall over a run that shrinks nothing
  pub Runs-roomier : (old new : State C) (calls : List (Call Q)) (replies : List Reply)
      (cost : List Event) → All KeepsRoom calls →
      RunsValues key value_key spelling adds copies hash old calls replies cost new
      → HasNoLessRoom old new
  Runs-roomier old new (call ∷ calls) (r ∷ replies) cost all run = omega (
    arith,
    call-roomier old run.0 call r (all 0 call (omega arith)) run.4.0,
    Runs-roomier run.0 new calls replies run.2 (λ k d lt. all (suc k) d (omega arith)) run.5,
  )
  Runs-roomier old new _ _ cost all run = grind (arith, common_steps)

  -- a reply that is no refusal gives a symbol
  accepted : (old new : State C) (q : Q) (r : Reply) →
      Step key value_key spelling adds copies old (Intern q) r new → ¬ IsRefusal r
      → (i : ℕ) × (r ≡ reply.Symbol (Some i)) × IsIssued key old (value_key q) i new
  accepted old new q (reply.Symbol (Some i)) step fine =
      let shows = λ (a b : List C) (is : adds q a b). shows-key key (value_key q) a b (one q a b is) in
      (i, refl, added-as key key (value_key q) (adds q) shows (first key old.contents (value_key q)) old new i step)
  accepted old new q reply.Overflow step fine = absurd (fine tt)
  accepted old new q reply.NoMemory step fine = absurd (fine tt)
  accepted old new q _ step fine = absurd step

  -- internings alone are given the symbols of `issue_from`, which go by the keys alone
  issues-from : (old new : State C) (held qs : List Q) (replies : List Reply) (cost : List Event) →
      map key old.contents ≡ map value_key held
      → RunsValues key value_key spelling adds copies hash old (map Intern qs) replies cost new
      → All (λ r. ¬ IsRefusal r) replies →
      replies ≡ map (λ i. reply.Symbol (Some i)) (issue_from value_key held qs)
  issues-from old new held (q ∷ qs) (r ∷ replies) cost same run none =
      let given = accepted old run.0 q r run.4.0 (none 0 r (omega arith)) in
      let found : first key old.contents (value_key q) ≡ first value_key held (value_key q) = rw same refl in
      let size : length old.contents ≡ length held =
      sym (length-map old.contents key) ∙ ap length same ∙ length-map held value_key in
      let symbol : given.0 ≡ issued value_key held q = given.2.0 ∙ rw (found, size) refl in
      let after : map key run.0.contents ≡ map value_key (interned value_key held q) =
      given.2.1 ∙ rw same (same-held value_key held q) in
      let rest = issues-from run.0 new (interned value_key held q) qs replies run.2 after run.5
      (λ k d lt. none (suc k) d (omega arith)) in
      rw (given.1, symbol, rest) refl
  issues-from old new held _ _ cost same run none = grind (arith, common_steps)

  -- internings alone, none of which is refused, into an empty table are given the symbols of `issue`
  pub Runs-issue : (old new : State C) (qs : List Q) (replies : List Reply) (cost : List Event) →
      old.contents ≡ [] →
      RunsValues key value_key spelling adds copies hash old (map Intern qs) replies cost new
      → All (λ r. ¬ IsRefusal r) replies → replies ≡ map (λ i. reply.Symbol (Some i)) (issue value_key qs)
  Runs-issue old new qs replies cost empty run none =
      issues-from old new [] qs replies cost (rw empty refl) run none

-- values that aren't copied, in room that is there
module _ {C Q : Type 0} (key : C → Key) (value_key : Q → Key) (spelling : C → List ℕ) (adds : Q → List C →
    List C → Type 0) (hash : Key → ℕ) where
  had-room : (o : Option ℕ) (old next : State C) →
      MatchOption o (IsRefused old next)
      (λ j. (◌≡◌ {A = Result ℕ InternError} (Err (error.Memory alloc_error)) (Ok j)) × (next ≡ old)) →
      0 < old.spare → ⊥
  had-room None old next h lt = let none : old.spare ≡ 0 = h.no_room in omega arith
  had-room (Some j) old next h lt = let no = h.0 in cc

  -- one interning in room that is there isn't refused
  quiet : (old next : State C) (q : Q) (r : Reply) →
      Step key value_key spelling adds false old (Intern q) r next → 0 < old.spare → r ≢ reply.NoMemory
  quiet old next q reply.NoMemory step lt =
      absurd (had-room (first key old.contents (value_key q)) old next step lt)
  quiet old next q _ step lt = λ e. cc

  in-room : (old new : State C) (qs : List Q) (replies : List Reply) (cost : List Event) →
      RunsValues key value_key spelling adds false hash old (map Intern qs) replies cost new →
      length qs ≤ old.spare → All (λ r. r ≢ reply.NoMemory) replies
  in-room old new (q ∷ qs) (r ∷ replies) cost run le =
      let less = intern-spare key value_key spelling adds false old run.0 q r run.4.0 (omega arith) in
      All-cons (λ (x : Reply). x ≢ reply.NoMemory) r replies (quiet old run.0 q r run.4.0 (omega arith))
      (in-room run.0 new qs replies run.2 run.5 (omega arith))
  in-room old new _ _ cost run le = grind (arith, common_steps)

  -- as many as there is room for are interned without running out of memory, unless they are copied
  pub Runs-room : (copies : Bool) (old new : State C) (calls : List (Call Q)) (replies : List Reply)
      (cost : List Event) → RunsValues key value_key spelling adds copies hash old calls replies cost new →
      HonoursRoom copies old calls replies
  Runs-room false old new calls replies cost run =
      λ qs interns few. in-room old new qs replies cost (rw interns at run) few
  Runs-room true old new calls replies cost run = tt
