-- What adds a content with a key and a spelling is interned as the copy of a form.
use Rattle.std.proofs.Common.{◌≡◌, ℕ, Bool, true, false, List, Option, Some, None, MatchOption, Result, Ok, Err, inr}
use Rattle.intaglio.proofs.Names.{Key, IsPushed, State, first, AddsNew, InternsValue, InternsForm, IsOutOfMemory, InternError}
use Rattle.intaglio_symbol.specs.declared.error.InternError.TheVariants as intern_error

module _ {C : Type 0} (key : C → Key) (spelling : C → List ℕ) (adds : List C → List C →
    Type 0) (copies : Bool) (k : Key) (w : List ℕ) (copy : (a b : List C) → adds a b →
    IsPushed key spelling k w a b) where
  out-form : (kind : Bool) (old new : State C) → IsOutOfMemory kind old new → IsOutOfMemory true old new
  out-form false old new h = inr h
  out-form true old new h = h

  form-by : (o : Option ℕ) (old new : State C) (r : Result ℕ InternError) →
      MatchOption o (AddsNew adds copies old r new) (λ i. (r ≡ Ok i) × (new ≡ old)) →
      MatchOption o (AddsNew (IsPushed key spelling k w) true old r new) (λ i. (r ≡ Ok i) × (new ≡ old))
  form-by None old new (Ok i) h = record {
    below_limit = h.below_limit;
    position = h.position;
    contents =
        copy old.contents new.contents h.contents;
    spare = h.spare;
    growth = h.growth;
    limit = h.limit;
  }
  form-by None old new (Err (intern_error.Overflow e)) h = h
  form-by None old new (Err (intern_error.Memory e)) h = out-form copies old new h
  form-by (Some i) old new r h = h

  -- an interning that adds such a content is that of a form with the key and the spelling
  pub interns-form : (old new : State C) (r : Result ℕ InternError) →
      InternsValue key adds copies old k r new → InternsForm key spelling old k w r new
  interns-form old new r h = form-by (first key old.contents k) old new r h
