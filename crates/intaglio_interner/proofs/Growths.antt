-- How often the memory of a table's contents grows.
use Rattle.intaglio_interner.proofs.Names.{common_steps, ◌≡◌, ◌≢◌, ℕ, suc, ◌+◌, ◌*◌, ◌^◌, ◌≤◌, max, Bool, List, [], ◌∷◌, ◌++◌, length, All, inl, inr, refl, arith, cases_eq, ne_eqb, Key, IsAddedOne, State, Step, KeepsContents, KeepsRoom, Room, changes, bytes_of, CallGrows, RunsGrowing, GrowsSeldom, Call, Intern, ShrinkToFit, Reply}
use Rattle.std.proofs.Math.Nat.{mul-le-mul_left, mul_assoc, pow-suc}
use Rattle.intaglio_interner.proofs.Room.{added-length}
use Rattle.intaglio_interner.proofs.LookUps.{look-up-same, intern-either}

-- a number that at least doubles where it changes, and then doubles so often
doubled : (g i x y z : ℕ) → g ≡ changes x y + i → (y ≢ x → 2 * max 1 x ≤ max 1 y) →
    2 ^ i * max 1 y ≤ max 1 z → 2 ^ g * max 1 x ≤ max 1 z
doubled g i x y z count twice rest =
    elim (cases_eq y x) [
      | inl same ↦ grind (arith, common_steps)
      | inr differ ↦
          let one : changes x y ≡ 1 = rw (ne_eqb y x differ) refl in
          let once : g ≡ suc i = omega (arith, count, one) in
          let more : 2 ^ i * (2 * max 1 x) ≤ 2 ^ i * max 1 y = mul-le-mul_left (2 ^ i) (twice differ) in
          let power : 2 ^ suc i * max 1 x ≡ 2 ^ i * (2 * max 1 x) =
          grind (arith, common_steps, pow-suc, mul_assoc) in
          rw once (omega (arith, more, power, rest))
    ]

module _ {C Q : Type 0} (takes : C → ℕ) (needs : Q → ℕ) where
  -- room for contents, or for bytes, that changes at least doubles
  doubles : (old next : Room C) (call : Call Q) → KeepsRoom call → CallGrows takes needs old call next →
      (next.most ≢ old.most → 2 * max 1 old.most ≤ max 1 next.most)
      × (bytes_of takes next ≢ bytes_of takes old
      → 2 * max 1 (bytes_of takes old) ≤ max 1 (bytes_of takes next))
  doubles old next ShrinkToFit keep grows = absurd keep
  doubles old next _ keep grows =
      (λ differ. grind (arith, common_steps), λ differ. grind (arith, common_steps))

  -- a growth for an interning makes room for at most twice as many contents as there are, or for 4
  list-within : (old next : Room C) (call : Call Q) → KeepsContents call →
      CallGrows takes needs old call next → next.most ≢ old.most →
      next.most ≤ max 4 (2 * length old.state.contents)
  list-within old next ShrinkToFit keep grows differ = absurd keep
  list-within old next _ keep grows differ = grind (arith, common_steps)

  module _ (IsStep : State C → Call Q → Reply → State C → Type 0) where
    -- the room for contents, and that for bytes, doubled as often as it changed
    all-growths : (old : Room C) (calls : List (Call Q)) (replies : List Reply) (g h : ℕ) (new : Room C) →
        All KeepsRoom calls → RunsGrowing takes needs IsStep old calls replies g h new
        → (2 ^ g * max 1 old.most ≤ max 1 new.most)
        × (2 ^ h * max 1 (bytes_of takes old) ≤ max 1 (bytes_of takes new))
    all-growths old (call ∷ calls) (r ∷ replies) g h new keep run =
        let rest =
        all-growths run.0 calls replies run.1 run.2 new (λ k d lt. keep (suc k) d (omega arith)) run.7 in
        let twice = doubles old run.0 call (keep 0 call (omega arith)) run.6 in
        (doubled g run.1 _ _ _ run.3 twice.0 rest.0, doubled h run.2 _ _ _ run.4 twice.1 rest.1)
    all-growths old _ _ g h new keep run = grind (arith, common_steps)

    -- one call more
    pub growing-push : (replies : List Reply) (old : Room C) (calls : List (Call Q)) (mid : Room C)
        {call : Call Q} (r : Reply) (new : Room C)
        → (g h : ℕ) × RunsGrowing takes needs IsStep old calls replies g h mid →
        IsStep mid.state call r new.state → CallGrows takes needs mid call new
        → (g h : ℕ) × RunsGrowing takes needs IsStep old (calls ++ call ∷ []) (replies ++ r ∷ []) g h new
    growing-push [] old [] mid r new (g, h, run) step grows = (
      changes old.most new.most,
      changes (bytes_of takes old) (bytes_of takes new),
      (new, 0, 0, omega arith, omega arith, rw (← run.2) step, rw (← run.2) grows, (refl, refl, refl)),
    )
    growing-push (y ∷ replies) old (x ∷ calls) mid r new (g, h, run) step grows =
        let rest = growing-push replies run.0 calls mid r new (run.1, run.2, run.7) step grows in
        (_, _, (run.0, rest.0, rest.1, refl, refl, run.5, run.6, rest.2))
    growing-push _ old _ mid r new run step grows = absurd run.2

    module _ (sizes : (old next : State C) (call : Call Q) (r : Reply) → KeepsContents call →
        IsStep old call r next → length old.contents ≤ length next.contents) where
      -- there is room for few more contents than there are, which aren't fewer than before
      few-growths : (old : Room C) (calls : List (Call Q)) (replies : List Reply) (g h : ℕ)
          (new : Room C) → All KeepsContents calls → RunsGrowing takes needs IsStep old calls replies g h new
          → (length old.state.contents ≤ length new.state.contents)
          × (new.most ≤ max old.most (max 4 (2 * length new.state.contents)))
      few-growths old (call ∷ calls) (r ∷ replies) g h new keep run =
          let rest = few-growths run.0 calls replies run.1 run.2 new (λ k d lt. keep (suc k) d (omega arith))
          run.7 in
          let size = sizes old.state run.0.state call r (keep 0 call (omega arith)) run.5 in
          let more = list-within old run.0 call (keep 0 call (omega arith)) run.6 in
          (omega (arith, size, rest.0), grind (arith, common_steps))
      few-growths old _ _ g h new keep run = grind (arith, common_steps)

      -- so both grow seldom
      pub grows-seldom : {old : Room C} {calls : List (Call Q)} {replies : List Reply} {new : Room C} →
          (g h : ℕ) × RunsGrowing takes needs IsStep old calls replies g h new →
          GrowsSeldom takes needs IsStep old calls replies new
      grows-seldom {old} {calls} {replies} {new} run = record {
        g = run.0;
        h = run.1;
        growths = run.2;
        list = λ keep. (all-growths old calls replies run.0 run.1 new keep run.2).0;
        few = λ keep. (few-growths old calls replies run.0 run.1 new keep run.2).1;
        bytes = λ keep. (all-growths old calls replies run.0 run.1 new keep run.2).1;
      }

-- internings and look-ups drop no content
module _ {C Q : Type 0} {key : C → Key} {value_key : Q → Key} (spelling : C → List ℕ) {adds : Q → List C →
    List C → Type 0} (copies : Bool) (one : (q : Q) (a b : List C) → adds q a b →
    IsAddedOne key (value_key q) a b) where
  pub call-size : (old next : State C) (call : Call Q) (r : Reply) → KeepsContents call →
      Step key value_key spelling adds copies old call r next → length old.contents ≤ length next.contents
  call-size old next (Intern q) r keep made =
      grind (
        arith,
        common_steps,
        intern-either key value_key spelling adds copies old next q r made,
        added-length copies (one q) old next,
      )
  call-size old next call r keep made =
      rw (look-up-same key value_key spelling adds copies old next call r keep made) (omega arith)
