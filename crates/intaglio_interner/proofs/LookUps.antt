-- Look-ups leave a table as it is, and internings keep its contents or add one.
use Rattle.intaglio_interner.proofs.Names.{KeepsContents, common_steps, arith, ◌≡◌, ◌⊎◌, ℕ, Bool, List, Some, Ok, Err, Result, alloc_error, Key, Event, State, IsAdded, InternsValue, placed_count, Step, StepCost, InternError, Call, Intern, Check, IsInterned, Contains, Len, IsEmpty, Reply}
use Rattle.intaglio_interner.proofs.Room.{IsKept, interns-either}
use Rattle.intaglio_symbol.specs.declared.error.InternError.TheVariants as intern_error
use Rattle.intaglio_interner.specs.declared.runs.Reply.TheVariants as reply

-- a call that looks up a key or a symbol, or asks how many contents there are
abbrev pub LooksUp : {Q : Type 0} → Call Q → Type 0
LooksUp (Intern _) = ⊥
LooksUp call = KeepsContents call

module _ {C Q : Type 0} (key : C → Key) (value_key : Q → Key) (spelling : C → List ℕ) (adds : Q → List C →
    List C → Type 0) (copies : Bool) where
  -- a look-up changes nothing
  pub look-up-same : (old new : State C) (call : Call Q) (r : Reply) → LooksUp call →
      Step key value_key spelling adds copies old call r new → new ≡ old
  look-up-same old new (Check q) (reply.Symbol x) looks step = step.1
  look-up-same old new (IsInterned q) (reply.Bool x) looks step = step.1
  look-up-same old new (Contains s) (reply.Bool x) looks step = step.1
  look-up-same old new Len (reply.Count x) looks step = step.1
  look-up-same old new IsEmpty (reply.Bool x) looks step = step.1
  look-up-same old new _ _ looks step = grind (arith, common_steps)

  -- and places nothing
  pub look-up-places : (hash : Key → ℕ) (old new : State C) (call : Call Q) (r : Reply) (now : List Event) →
      LooksUp call → StepCost key value_key hash old call r new now → placed_count now ≡ 0
  look-up-places hash old new (Check q) r now looks cost = cost.0.placements
  look-up-places hash old new _ r now looks cost = grind (arith, common_steps)

  -- an interning by its result
  pub interns-as : (old new : State C) (q : Q) (r : Reply) →
      Step key value_key spelling adds copies old (Intern q) r new → (result : Result ℕ InternError)
      × InternsValue key (adds q) copies old (value_key q) result new
  interns-as old new q (reply.Symbol (Some i)) step = (Ok i, step)
  interns-as old new q reply.Overflow step =
      (Err (intern_error.Overflow (record { private = tt })), step (record { private = tt }))
  interns-as old new q reply.NoMemory step = (Err (intern_error.Memory alloc_error), step)
  interns-as old new q _ step = absurd step

  -- so it keeps the contents, or adds one
  pub intern-either : (old new : State C) (q : Q) (r : Reply) →
      Step key value_key spelling adds copies old (Intern q) r new →
      IsKept old new ⊎ ((i : ℕ) × IsAdded (adds q) old i new)
  intern-either old new q r step = let made = interns-as old new q r step in
      interns-either key (adds q) copies (value_key q) old new made.0 made.1
