-- If each content has the key of its bytes, then what the interner finds, adds or refuses by contents, it
-- finds, adds or refuses by their bytes.
use Rattle.intaglio_c.proofs.Names.{◌≡◌, ◌<◌, ◌∷◌, ◌++◌, ℕ, inl, inr, Bool, true, false, List, [], map, refl, sym, ap, subst, ◌∙◌, arith, Option, Some, None, MatchOption, Result, Ok, Err, take-map, length-map, map-append, State, Table, first, first_of, AddsNew, InternsValue, IsOutOfMemory, IsRefused, fault, HasKey, key, IsFaultless, Seen, as_bytes, seen_of, position, look_up, unless, IsChangedBy, InternsBy, InternsNew, KeyedState, TableKind, Refusal, Key, InternError, Overflow, Memory, symbol_answer, found}
use Rattle.intaglio_content.specs.Store.{IsMoved, IsPushed}
use Rattle.intaglio_c.proofs.Faults.{untested}

-- what the bytes of the first contents are
pub ruleset first_bytes = (length-map, take-map)

module _ {C : Type 0} (bytes : C → List ℕ) where
  -- an interning of what isn't stored
  refused : (old new : State C) → IsRefused old new → IsRefused (as_bytes bytes old) (as_bytes bytes new)
  refused old new refusal = record {
    below_limit = omega (arith, length-map old.contents bytes, refusal.below_limit);
    no_room = refusal.no_room;
    contents = ap (map bytes) refusal.contents;
    spare = refusal.spare;
    buckets = refusal.buckets;
    limit = refusal.limit;
  }

  out_of_memory : (copies : Bool) (old new : State C) → IsOutOfMemory copies old new →
      IsOutOfMemory copies (as_bytes bytes old) (as_bytes bytes new)
  out_of_memory false old new refusal = refused old new refusal
  out_of_memory true old new (inl before) = inl (record {
    below_limit = omega (arith, length-map old.contents bytes, before.below_limit);
    same = ap (as_bytes bytes) before.same;
  })
  out_of_memory true old new (inr refusal) = inr (refused old new refusal)

  -- a list becomes one whose bytes are those before, with these behind them
  abbrev pub Adds : (List C → List C → Type 0) → List C → List ℕ → Type 0
  Adds adds cs b = (cs' : List C) → adds cs cs' → map bytes cs' ≡ map bytes cs ++ b ∷ []

  added : (adds : List C → List C → Type 0) (copies : Bool) (old new : State C) (b : List ℕ)
      (result : Result ℕ InternError) → Adds adds old.contents b → AddsNew adds copies old result new
      → InternsNew copies b (as_bytes bytes old) (symbol_answer result) (as_bytes bytes new)
  added adds copies old new b (Ok symbol) grows taken = let count = length-map old.contents bytes in record {
    below_limit = subst (λ (m : ℕ). m < old.limit) (sym count) taken.below_limit;
    position = taken.position ∙ sym count;
    contents = grows new.contents taken.contents;
    spare = taken.spare;
    growth = λ grown. (count ∙ (taken.growth grown).0, (taken.growth grown).1);
    limit = taken.limit;
  }
  added adds copies old new b (Err (Overflow full)) grows kept =
      (length-map old.contents bytes ∙ kept.0, ap (as_bytes bytes) kept.1)
  added adds copies old new b (Err (Memory e)) grows failed = out_of_memory copies old new failed

  -- by the result of the look-up
  by_look_up : (adds : List C → List C → Type 0) (copies : Bool) (o : Option ℕ) (old new : State C)
      (b : List ℕ) (result : Result ℕ InternError)
      → Adds adds old.contents b →
      MatchOption o (AddsNew adds copies old result new) (λ i. (result ≡ Ok i) × (new ≡ old))
      → InternsBy copies b (as_bytes bytes old) (Ok o) (symbol_answer result) (as_bytes bytes new)
  by_look_up adds copies None old new b result grows step = added adds copies old new b result grows step
  by_look_up adds copies (Some i) old new b result grows step =
      (ap symbol_answer step.0, ap (as_bytes bytes) step.1)

  -- a content that is moved in, and one that a form is copied to
  pub moved : (c : C) (cs : List C) (b : List ℕ) → bytes c ≡ b → Adds (IsMoved c) cs b
  moved c cs b is cs' grown = ap (map bytes) grown ∙ map-append bytes cs (c ∷ [])
      ∙ ap (λ (x : List ℕ). map bytes cs ++ x ∷ []) is

  pub pushed : (content_key : C → Key) (k : Key) (cs : List C) (b w : List ℕ) → w ≡ b →
      Adds (IsPushed content_key bytes k w) cs b
  pushed content_key k cs b w is cs' one = moved one.copy cs b (one.same_spelling ∙ is) cs' one.added

-- a kind whose contents have their bytes' keys
module _ {C : Type 0} (kind : TableKind) (bytes : C → List ℕ) (content_key : C → Key) (same : (c : C) →
    content_key c ≡ key kind (bytes c)) where
  keys : (cs : List C) → map content_key cs ≡ map (key kind) (map bytes cs)
  keys [] = refl
  keys (c ∷ cs) = λ i. same c i ∷ keys cs i

  place : (cs : List C) (b : List ℕ) (k : Key) → k ≡ key kind b →
      first content_key cs k ≡ first (key kind) (map bytes cs) (key kind b)
  place cs b k spelled = ap (λ (ks : List Key). first_of ks k) (keys cs)
      ∙ ap (first (key kind) (map bytes cs)) spelled

  -- a look-up
  pub finds : (old : Seen) (held : State C) (h : KeyedState) → old ≡ seen_of kind bytes held h →
      (b : List ℕ) (sought : Key) (result : Option ℕ) → HasKey kind b → sought ≡ key kind b →
      result ≡ first content_key held.contents sought
      → IsFaultless old → result ≡ found (look_up old b)
  finds old held h is b sought result some spelled answer faultless =
      answer ∙ place held.contents b sought spelled ∙ sym (ap (λ (x : Seen). position x b) is)
      ∙ untested old b faultless (subst (λ (x : Seen). HasKey x.kind b) (sym is) some)

  -- an interning
  pub interned : (copies : TableKind → Bool) (old : Seen) (held : State C) (h : KeyedState) →
      old ≡ seen_of kind bytes held h → (t' : Table C KeyedState) → t'.hasher ≡ h → (b : List ℕ) →
      fault old.kind b ≡ None → (adds : List C → List C → Type 0) (k : Key) → k ≡ key kind b →
      Adds bytes adds held.contents b → (result : Result ℕ InternError) (answer : Result ℕ Refusal) →
      InternsValue content_key adds (copies kind) held k result t'.state → answer ≡ symbol_answer result
      → IsChangedBy old (seen_of kind bytes t'.state t'.hasher)
      (λ _ s'. InternsBy (copies old.kind) b old.state (look_up old b) answer s')
  interned copies old held h is t' hasher b allowed adds k spelled grows result answer step answered =
      subst (λ (x : Seen). fault x.kind b ≡ None → IsChangedBy x (seen_of kind bytes t'.state t'.hasher)
      (λ _ s'. InternsBy (copies x.kind) b x.state (look_up x b) answer s')) (sym is) (λ none. record {
        kind = refl;
        hasher = hasher;
        step = subst (λ (X : Type 0). X) (λ j. InternsBy (copies kind) b (as_bytes bytes held)
            (unless (sym none j) (place held.contents b k spelled j)) (sym answered j) (as_bytes bytes t'.state))
            (by_look_up bytes adds (copies kind) (first content_key held.contents k) held t'.state b result grows step);
      }) allowed
