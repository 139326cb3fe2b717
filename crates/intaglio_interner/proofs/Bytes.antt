-- The room for bytes over a run.
use Rattle.std.proofs.lemmas.Grind.{common_steps}
use Rattle.intaglio_interner.proofs.Names.{◌≡◌, ◌≢◌, ℕ, ◌+◌, ◌<◌, ◌≤◌, List, [], ◌∷◌, ◌++◌, length, map, All, Bool, sym, ap, ◌∙◌, arith, length-append, sum_by, All-push, Key, State, Step, UsesRoom, Call, Intern, Reply}
use Rattle.std.proofs.Math.Seq.{get_or-append_seam}
use Rattle.std.proofs.lemmas.List.Sums.{sum_by-cons}
use Rattle.intaglio_interner.proofs.LookUps.{intern-either}
use Rattle.intaglio_interner.specs.declared.runs.Reply.TheVariants as reply

-- what holds of all holds of the next one
pub All-next : {X : Type 0} (P : X → Type 0) {all : List X} (xs : List X) {rest : List X} {x : X}
    {ys : List X} → xs ++ rest ≡ all → rest ≡ x ∷ ys → All P all → P x
All-next P {all} xs {x = x} {ys = ys} whole next holds =
    let parts : all ≡ xs ++ x ∷ ys = sym whole ∙ ap (λ t. xs ++ t) next in
    let inside : length xs < length (xs ++ x ∷ ys) = omega (arith, length-append xs (x ∷ ys)) in
    rw (get_or-append_seam xs x ys x) at ((rw parts at holds) (length xs) x inside)

-- internings for which there was room haven't run out of memory, and there is room for the rest
abbrev pub StillRoom : {C Q : Type 0} → (Q → ℕ) → Type 0 → State C → ℕ → List (Call Q) → List (Call Q) →
    List Reply → State C → ℕ → Type 0
StillRoom {C} {Q} needs in_store old bytes calls rest replies now bytes' =
    (qs : List Q) → calls ≡ map Intern qs → length qs ≤ old.spare → in_store → sum_by needs qs ≤ bytes
    → All (λ r. r ≢ reply.NoMemory) replies × ((left : List Q) × (rest ≡ map Intern left)
    × (length left ≤ now.spare) × (sum_by needs left ≤ bytes'))

module _ {C Q : Type 0} (key : C → Key) (value_key : Q → Key) (spelling : C → List ℕ) (adds : Q → List C →
    List C → Type 0) (copies : Bool) where
  -- an interning uses at most one place
  pub intern-spare : (old next : State C) (q : Q) (r : Reply) →
      Step key value_key spelling adds copies old (Intern q) r next → 0 < old.spare →
      old.spare ≤ next.spare + 1
  intern-spare old next q r step some =
      grind (arith, common_steps, intern-either key value_key spelling adds copies old next q r step)

  -- one more of them
  pub StillRoom-next : (needs : Q → ℕ) (in_store : Type 0) (left : List Q) (mid next : State C) (r : Reply)
      (bytes bytes' : ℕ) {call : Call Q} {rest : List (Call Q)} (replies : List Reply)
      → call ∷ rest ≡ map Intern left → length left ≤ mid.spare → in_store → sum_by needs left ≤ bytes →
      All (λ r. r ≢ reply.NoMemory) replies → UsesRoom needs in_store mid bytes call r bytes'
      → Step key value_key spelling adds copies mid call r next →
      All (λ r. r ≢ reply.NoMemory) (replies ++ r ∷ []) × ((left : List Q) × (rest ≡ map Intern left)
      × (length left ≤ next.spare) × (sum_by needs left ≤ bytes'))
  StillRoom-next needs in_store [] mid next r bytes bytes' replies e few there enough all uses step = cc
  StillRoom-next needs in_store (q ∷ left) mid next r bytes bytes' {call} replies e few there enough all uses
      step =
      let is : call ≡ Intern q = cc in
      let used = rw is at uses in
      let less = intern-spare mid next q r (rw is at step) (omega arith) in
      let parts = sum_by-cons needs q left in (
        All-push (λ r. r ≢ reply.NoMemory) replies r all (used.1 (omega arith) there (omega arith)),
        (left, cc, omega arith, omega (arith, used.0)),
      )
