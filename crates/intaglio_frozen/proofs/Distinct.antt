-- Strings that are interned in order, and are all new, are distinct.
use Rattle.intaglio_frozen.proofs.Names.{common_steps, length-map, length-append, map-append, gets, slice_get_within, slice_get-get_or, some-below, first-none, State, AreDistinct, first, first_of, InternError, AreEqual, HasNoEqual, Key, interned, interned_all, IfOverflow, Overflow, Memory}
use Rattle.std.proofs.Common.{get_or, ◌≡◌, ◌∙◌, ℕ, ◌+◌, ◌<◌, ◌≤◌, List, [], ◌∷◌, ◌++◌, length, map, take, slice_get, Option, Some, None, MatchOption, Result, Ok, refl, sym, ap, arith, append-nil, append_assoc}
use Rattle.intaglio_interner.specs.Change.{InternsForm, InternsNewForm}
use Rattle.intaglio_interner.specs.Lookup.{IsStored, Keeps}
use Rattle.intaglio_frozen.proofs.Found.{key, at-key}
use Rattle.std.proofs.Math.Seq.{get_or-append_seam}
use Rattle.std.proofs.Math.ListN.{get_or-append}

-- if a search finds only old symbols, a string that is interned by its result with a new symbol is appended
by-found : (o : Option ℕ) (old new : State (List ℕ)) (w : List ℕ) (s : ℕ) →
    ((i : ℕ) → o ≡ Some i → i < length old.contents)
    → MatchOption o (InternsNewForm key (λ v. v) old (key w) w (Ok s) new)
    (λ i. ◌≡◌ {A = Result ℕ InternError} (Ok s) (Ok i) × (new ≡ old))
    → length old.contents ≤ s → new.contents ≡ old.contents ++ w ∷ []
by-found None old new w s below step past =
    step.contents.added ∙ ap (λ v. old.contents ++ v ∷ []) step.contents.same_spelling
by-found (Some i) old new w s below step past =
    let same : s ≡ i = cc in
    absurd (omega (arith, below i refl, same, past))

-- a string whose symbol isn't one of those before is added
pub added : (old new : State (List ℕ)) (w : List ℕ) (s : ℕ) →
    InternsForm key (λ v. v) old (key w) w (Ok s) new → length old.contents ≤ s →
    new.contents ≡ old.contents ++ w ∷ []
added old new w s step past = grind (arith, common_steps, by-found, key, some-below, length-map)

-- at a position below i, the first i strings have what all strings have there
slice_get-take : (ws : List (List ℕ)) (i k : ℕ) → k < i → slice_get (take i ws) k ≡ slice_get ws k
slice_get-take ws i k l = grind (arith, common_steps, gets)

-- a string whose symbol is one of those before is equal to the string there
pub again : (ws : List (List ℕ)) (old new : State (List ℕ)) (i s : ℕ) (w : List ℕ) →
    old.contents ≡ take i ws → slice_get ws i ≡ Some w → s < i
    → Keeps key old new → IsStored key new (key w) s → AreEqual ws s i
again ws old new i s w held at below kept stored =
    let v = get_or ws s [] in
    let there = slice_get-get_or ws s [] (omega (arith, below, slice_get_within ws i w at)) in
    let before : slice_get old.contents s ≡ Some v = rw (held, slice_get-take ws i s below) there in
    let after : Some v ≡ Some stored.content = sym (kept.stored s v before) ∙ stored.stands in
    let keys : key stored.content ≡ key w = stored.same_key in
    let same : v ≡ w = cc in
    (below, w, there ∙ ap Some same, at)

-- if no two strings have equal keys, no string is equal to a later one
pub none-equal : (ws : List (List ℕ)) → AreDistinct (map key ws) → HasNoEqual ws
none-equal ws apart i j equal =
    let first = at-key ws i [] equal.1 equal.2 in
    let second = at-key ws j [] equal.1 equal.3 in
    apart i j [] equal.0 second.0 (first.1 ∙ sym second.1)

-- Distinct strings, interned in order, are all stored.

-- none of the keys before another is equal to it
none-before : (keys rest : List Key) (k : Key) → AreDistinct (keys ++ k ∷ rest) → first_of keys k ≡ None
none-before keys rest k apart = first-none keys k (λ j lt.
    rw (get_or-append keys (k ∷ rest) [] j lt, get_or-append_seam keys k rest []) at (apart j (length keys) [] lt (omega (arith, length-append keys (k ∷ rest)))))

-- if the contents that are held and further ones are all distinct, interning these appends them all in order
pub all-interned : {C : Type 0} (key : C → Key) (held cs : List C) → AreDistinct (map key (held ++ cs)) →
    interned_all key held cs ≡ held ++ cs
all-interned key held [] apart = sym (append-nil held)
all-interned key held (c ∷ cs) apart =
    let none : first key held (key c) ≡ None =
    none-before (map key held) (map key cs) (key c) (rw (map-append key held (c ∷ cs)) at apart) in
    let grown : interned key held c ≡ held ++ c ∷ [] = rw none refl in
    let moved : held ++ c ∷ [] ++ cs ≡ held ++ c ∷ cs = append_assoc held (c ∷ []) cs in
    rw grown (all-interned key (held ++ c ∷ []) cs (rw moved apart) ∙ moved)

-- where there are no more of them than the limit, an error is no overflow
pub no-overflow : {C : Type 0} (key : C → Key) (cs : List C) (limit : ℕ) (e : InternError) →
    AreDistinct (map key cs) → length cs ≤ limit →
    IfOverflow e (limit < length (interned_all key [] cs)) → IfOverflow e ⊥
no-overflow key cs limit (Overflow full) apart few more = grind (arith, all-interned key [] cs apart)
no-overflow key cs limit (Memory refused) apart few more = tt
