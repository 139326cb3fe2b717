-- What a run replies and leaves follows from its calls, the contents before it and the
-- limit, if it isn't refused memory.
use Rattle.std.proofs.lemmas.Grind.{common_steps}
use Rattle.intaglio_interner.proofs.Names.{◌≡◌, ◌≢◌, ◌∙◌, sym, ap, refl, arith, ℕ, suc, ◌+◌, false, cond, ltb, List, [], ◌∷◌, ◌++◌, length, map, take, Option, Some, None, option_map, is_some, MatchOption, Result, Ok, slice_get, nat_lt, nat_eq, lt-ltb, le-ltb, Key, IsMoved, Event, State, first, IsAppended, Step, found, Runs, Call, Intern, Check, GetInterned, IsInterned, Contains, Get, Len, IsEmpty, Clear, Reserve, ShrinkTo, ShrinkToFit, TakeBack, Reply, InternError}
use Rattle.intaglio_interner.specs.Alike.{Seen, symbol, pair, bool, spelling, count, done, overflow, capacity_overflow, stale, seen, HasMemory, AreAlike}
use Rattle.intaglio_interner.specs.declared.runs.Reply.TheVariants as reply

-- what an interning says and leaves, by the place where its key is first
abbrev interning_says : Option ℕ → ℕ → ℕ → Seen
interning_says (Some i) held limit = symbol (Some i)
interning_says None held limit = cond (ltb held limit) (symbol (Some held)) overflow

-- the contents that an interning leaves, with one more if its key is new and the limit isn't reached
abbrev interning_leaves : {C : Type 0} → Option ℕ → List C → ℕ → C → List C
interning_leaves (Some i) held limit c = held
interning_leaves None held limit c = cond (ltb (length held) limit) (held ++ c ∷ []) held

module _ {C : Type 0} (key : C → Key) (spells : C → List ℕ) where
  -- what a call says where these contents are held under this limit
  abbrev says : List C → ℕ → Call C → Seen
  says held limit (Intern c) = interning_says (first key held (key c)) (length held) limit
  says held limit (Check c) = symbol (first key held (key c))
  says held limit (GetInterned c) =
      pair (option_map {U = ℕ × List ℕ} (λ p. (p.0, spells p.1)) (found key held (key c)))
  says held limit (IsInterned c) = bool (is_some (first key held (key c)))
  says held limit (Contains s) = bool (nat_lt s (length held))
  says held limit (Get s) = spelling (option_map spells (slice_get held s))
  says held limit Len = count (length held)
  says held limit IsEmpty = bool (nat_eq (length held) 0)
  says held limit Clear = done
  says held limit (Reserve n) = cond (ltb limit (length held + n)) capacity_overflow done
  says held limit (ShrinkTo n) = done
  says held limit ShrinkToFit = done
  says held limit (TakeBack n) = cond (ltb (length held) n) stale done

  -- and which contents it leaves
  abbrev leaves : List C → ℕ → Call C → List C
  leaves held limit (Intern c) = interning_leaves (first key held (key c)) held limit c
  leaves held limit Clear = []
  leaves held limit (TakeBack n) = cond (ltb (length held) n) held (take n held)
  leaves held limit _ = held

  -- a reply says this, and a call leaves these contents under the same limit
  abbrev IsPlain : Seen → State C → State C → Seen → List C → Type 0
  IsPlain reply old new said left = (reply ≡ said) × (new.contents ≡ left) × (new.limit ≡ old.limit)

  plain : (old new : State C) {x y : Seen} → x ≡ y → new ≡ old → IsPlain x old new y old.contents
  plain old new e same = (e, ap (λ (s : State C). s.contents) same, ap (λ (s : State C). s.limit) same)

  taken-plain : (o : Option ℕ) (old new : State C) (c : C) (i : ℕ) →
      MatchOption o (IsAppended old c i new) (λ j. (◌≡◌ {A = Result ℕ InternError} (Ok i) (Ok j))
      × (new ≡ old))
      → IsPlain (symbol (Some i)) old new (interning_says o (length old.contents) old.limit)
      (interning_leaves o old.contents old.limit c)
  taken-plain None old new c i h =
      rw (lt-ltb (length old.contents) old.limit h.below_limit)
      (ap (λ n. symbol (Some n)) h.position, h.contents, h.limit)
  taken-plain (Some j) old new c i h = plain old new (cc) h.1

  overflow-plain : (o : Option ℕ) (old new : State C) (c : C) (B : ℕ → Type 0) → ((j : ℕ) → B j → ⊥) →
      MatchOption o ((length old.contents ≡ old.limit) × (new ≡ old)) (λ j. B j × (new ≡ old))
      → IsPlain overflow old new (interning_says o (length old.contents) old.limit)
      (interning_leaves o old.contents old.limit c)
  overflow-plain None old new c B never h =
      rw (le-ltb (length old.contents) old.limit (omega (arith, h.0))) (plain old new refl h.1)
  overflow-plain (Some j) old new c B never h = absurd (never j h.0)

  step-plain : (old new : State C) (call : Call C) (r : Reply) →
      Step key key spells IsMoved false old call r new → r ≢ reply.NoMemory →
      IsPlain (seen r) old new (says old.contents old.limit call) (leaves old.contents old.limit call)
  step-plain old new _ reply.NoMemory step n = absurd (n refl)
  step-plain old new (Intern c) (reply.Symbol (Some i)) step _ =
      taken-plain (first key old.contents (key c)) old new c i step
  step-plain old new (Intern c) reply.Overflow step _ =
      overflow-plain (first key old.contents (key c)) old new c _ (λ j e. cc)
      (step (record { private = tt }))
  step-plain old new (GetInterned c) (reply.Pair r) step _ = plain old new (ap pair step.0) step.1
  step-plain old new (IsInterned c) (reply.Bool r) step _ = plain old new (ap bool step.0) step.1
  step-plain old new (Get s) (reply.Spelling r) step _ = plain old new (ap spelling step.0) step.1
  step-plain old new Len (reply.Count r) step _ = plain old new (ap count step.0) step.1
  step-plain old new Clear reply.Done step _ = (refl, step.contents, step.limit)
  step-plain old new (Reserve n) reply.CapacityOverflow step _ =
      rw (lt-ltb old.limit (length old.contents + n) step.0) (plain old new refl step.1)
  step-plain old new (TakeBack n) reply.Stale step _ = let h = step (record { private = tt }) in
      rw (lt-ltb (length old.contents) n h.0) (plain old new refl h.1)
  step-plain old new _ _ step _ = grind (arith, common_steps, le-ltb)

  -- what calls in order say, and the contents that they leave
  abbrev says_each : List C → ℕ → List (Call C) → List Seen
  says_each held limit [] = []
  says_each held limit (call ∷ calls) = says held limit call ∷ says_each (leaves held limit call) limit calls

  abbrev leaves_all : List C → ℕ → List (Call C) → List C
  leaves_all held limit [] = held
  leaves_all held limit (call ∷ calls) = leaves_all (leaves held limit call) limit calls

  runs-plain : (hash : Key → ℕ) (old new : State C) (calls : List (Call C)) (replies : List Reply)
      (cost : List Event) → Runs key spells hash old calls replies cost new → HasMemory replies
      → (map seen replies ≡ says_each old.contents old.limit calls)
      × (new.contents ≡ leaves_all old.contents old.limit calls)
  runs-plain hash old new (call ∷ calls) (r ∷ replies) cost run memory =
      let one = step-plain old run.0 call r run.4.0 (memory 0 r (omega arith)) in
      let rest =
      runs-plain hash run.0 new calls replies run.2 run.5 (λ k d lt. memory (suc k) d (omega arith)) in
      (rw (one.0, rest.0, one.1, one.2) refl, rw (rest.1, one.1, one.2) refl)
  runs-plain hash old new _ _ cost run memory = grind (arith, common_steps)

  -- two runs of the same calls say the same and leave the same contents
  pub runs-alike : AreAlike key spells
  runs-alike hash hash' old old' new new' calls replies replies' cost cost' contents limit run run'
      memory memory' =
      let left = runs-plain hash old new calls replies cost run memory in
      let right = runs-plain hash' old' new' calls replies' cost' run' memory' in
      (left.0 ∙ rw (contents, limit) refl ∙ sym right.0, left.1 ∙ rw (contents, limit) refl ∙ sym right.1)
