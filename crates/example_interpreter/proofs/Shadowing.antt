-- Names and their symbols.
use Rattle.std.proofs.lemmas.Grind.{common_steps}
use Rattle.std.proofs.Common.{◌≡◌, ◌∙◌, ap, refl, sym, arith, ℕ, suc, ◌+◌, ◌<◌, List, [], ◌∷◌, ◌++◌, length, map, take, get_or, Option, Some, None, option_map}
use Rattle.std.specs.Prelude.{slice_get, All}
use Rattle.std.proofs.Math.Seq.{take-append_seam, get_or-append_seam}
use Rattle.std.proofs.lemmas.List.{length-append, map-append}
use Rattle.std.proofs.lemmas.Option.{same_Some, slice_get-map, slice_get_within, get_or_from_slice_get, slice_get-get_or}
use Rattle.intaglio.specs.Keys.{str_key}
use Rattle.intaglio.specs.Lookup.{IsFound, Keeps}
use Rattle.intaglio.specs.State.{State, first, IsValid}
use Rattle.intaglio.specs.StrContent.{str_content_bytes}
use Rattle.intaglio.specs.Types.{StrContent}
use Rattle.intaglio.proofs.CallerLaws.{has_content, keeps_text, spelled_at}
use Rattle.example_interpreter.specs.Names.{name_of, IsLast}

-- what is found by a name has this name
pub name-found : (s : State StrContent) (w : List ℕ) (n : ℕ) → IsValid str_key s →
    IsFound str_key s (w ∷ []) n → name_of s n ≡ w
name-found s w n valid found = grind (arith, common_steps, spelled_at)

-- and what has it is found by it
found-by : (s : State StrContent) (n : ℕ) → IsValid str_key s → n < length s.contents →
    IsFound str_key s (name_of s n ∷ []) n
found-by s n valid below =
    let held = has_content str_key s n below in
    (spelled_at str_key str_content_bytes (λ c. refl) s (name_of s n) n valid).0 (rw held.1 refl)

-- declarations keep their names
pub names-kept : (old new : State StrContent) (symbols : List ℕ) → Keeps str_key old new →
    All (λ n. n < length old.contents) symbols → map (name_of new) symbols ≡ map (name_of old) symbols
names-kept old new [] kept issued = refl
names-kept old new (n ∷ ns) kept issued =
    let same = keeps_text str_key str_content_bytes old new n kept (issued 0 n (omega arith)) in
    rw (same, names-kept old new ns kept (λ i d lt. issued (suc i) d (omega arith))) refl

-- with one more symbol there is one more name
pub declared-name : (old new : State StrContent) (symbols after : List ℕ) (n : ℕ) (w : List ℕ) →
    Keeps str_key old new → All (λ n. n < length old.contents) symbols → after ≡ symbols ++ n ∷ []
    → IsValid str_key new → IsFound str_key new (w ∷ []) n →
    map (name_of new) after ≡ map (name_of old) symbols ++ w ∷ []
declared-name old new symbols after n w kept issued added valid found = grind (arith, common_steps, map-append, names-kept, name-found)

module _ (s : State StrContent) (symbols : List ℕ) (w : List ℕ) (valid : IsValid str_key s)
    (issued : All (λ n. n < length s.contents) symbols) where
  from-some : (o : Option ℕ) → option_map (name_of s) o ≡ Some w → (n : ℕ) × (o ≡ Some n) × (name_of s n ≡ w)
  from-some None e = cc
  from-some (Some n) e = (n, refl, same_Some (name_of s n) w e)

  -- a declaration of the name has the symbol that the name is found at
  declared-at : (j : ℕ) → slice_get (map (name_of s) symbols) j ≡ Some w →
      (n : ℕ) × (slice_get symbols j ≡ Some n) × IsFound str_key s (w ∷ []) n
  declared-at j e =
      let at = from-some (slice_get symbols j) (sym (slice_get-map (name_of s) symbols j) ∙ e) in
      let below : get_or symbols j 0 < length s.contents =
      issued j 0 (slice_get_within symbols j at.0 at.1) in (
        at.0,
        at.1,
        rw at.2 at (found-by s at.0 valid (rw (get_or_from_slice_get symbols j at.0 0 at.1) at below)),
      )

  -- so the last declaration of the symbol is that of the name
  pub last-name : (n : ℕ) (r : Option ℕ) → IsFound str_key s (w ∷ []) n → IsLast symbols n r →
      IsLast (map (name_of s) symbols) w r
  last-name n None found last = λ j e. let at = declared-at j e in
      last j (at.1 ∙ ap Some (same_Some at.0 n (sym at.2 ∙ found)))
  last-name n (Some i) found last = (
    slice_get-map (name_of s) symbols i ∙ ap (option_map (name_of s)) last.0
        ∙ ap Some (name-found s w n valid found),
    λ j lt e. let at = declared-at j e in last.1 j lt (at.1 ∙ ap Some (same_Some at.0 n (sym at.2 ∙ found))),
  )

  -- and a name that isn't found isn't declared
  pub undeclared : first str_key s.contents (w ∷ []) ≡ None → IsLast (map (name_of s) symbols) w None
  undeclared none = λ j e. let at = declared-at j e in
      let found : first str_key s.contents (w ∷ []) ≡ Some at.0 = at.2 in cc

-- there is one last position
pub same_last : {X : Type 0} (xs : List X) (x : X) (r q : Option ℕ) → IsLast xs x r → IsLast xs x q → r ≡ q
same_last xs x None None a b = refl
same_last xs x None (Some j) a b = absurd (a j b.0)
same_last xs x (Some i) None a b = absurd (b i a.0)
same_last xs x (Some i) (Some j) a b = grind (arith, common_steps)

-- after a declaration it is the last one of its name
pub last_added : {X : Type 0} (xs : List X) (x : X) (r : Option ℕ) → IsLast (xs ++ x ∷ []) x r →
    r ≡ Some (length xs)
last_added xs x r last =
    let size : length (xs ++ x ∷ []) ≡ length xs + 1 = length-append xs (x ∷ []) in
    let there : slice_get (xs ++ x ∷ []) (length xs) ≡ Some x =
    slice_get-get_or (xs ++ x ∷ []) (length xs) x (omega arith) ∙ ap Some (get_or-append_seam xs x [] x) in
    same_last (xs ++ x ∷ []) x r (Some (length xs)) last (
      there,
      λ j above e. let within =
          slice_get_within (xs ++ x ∷ []) j x e in absurd (omega arith),
    )

-- and after the scope is left, the declarations are those before it
pub scope_left : {X : Type 0} (xs : List X) (x : X) → take (length xs) (xs ++ x ∷ []) ≡ xs
scope_left xs x = take-append_seam xs (x ∷ [])
