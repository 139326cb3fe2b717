-- Which bytes a kind doesn't take. No call brings such a string into a table, so a table has none that is
-- equal to such bytes, and a look-up needn't test them.
use Rattle.intaglio_c.proofs.Names.{arith, common_steps, ◌≡◌, ◌∷◌, ◌++◌, ◌==◌, ◌≢◌, ◌∙◌, Bool, ℕ, zero, suc, true, false, List, [], length, take, refl, sym, ap, cond, inl, inr, Option, Some, None, Result, Ok, Err, IsUtf8, is_some, get_or, none-some, TakesBack, interned, interned_all, State, first, StaleMark, Either, InternsOr, IsRolledBack, broken, earlier, fault, first_fault, HasKey, key, utf8_fault, TableKind, Refusal, BadEnds, Full, NoMemory, NotUtf8, IsFaultless, AnyTable, fault_in, seen, Seen, look_up, position, unless, IsChangedBy, InternsBy, Absorbs, found, Owned, Path, Packed}
use Rattle.std.proofs.lemmas.Str.{IsUtf8-from_is_utf8, is_utf8-from_IsUtf8}
use Rattle.intaglio_frozen.specs.Layout.{strings}
use Rattle.intaglio_interner.proofs.First.{key_eq-unequal}

-- bytes that are UTF-8 have no fault as a text
pub good-text : (bs : List ℕ) → IsUtf8 bs → utf8_fault bs ≡ None
good-text bs good = grind (arith, common_steps, is_utf8-from_IsUtf8 bs good)

-- bytes that aren't UTF-8 have the fault `NotUtf8`
pub bad-text : (bs : List ℕ) → ¬ (IsUtf8 bs) → utf8_fault bs ≡ Some NotUtf8
bad-text bs bad = grind (arith, common_steps, IsUtf8-from_is_utf8 bs)

pub ruleset texts = (good-text, bad-text)

-- bytes without a fault as a text are UTF-8
pub is_text : (bs : List ℕ) → utf8_fault bs ≡ None → IsUtf8 bs
is_text bs none = grind (arith, common_steps, IsUtf8-from_is_utf8 bs)

-- lists of strings
earlier-assoc : (a b c : Option Refusal) → earlier (earlier a b) c ≡ earlier a (earlier b c)
earlier-assoc None b c = refl
earlier-assoc (Some r) b c = refl

-- the first fault of a list and another behind it is that of the first, or else that of the second
pub first_fault-append : (k : TableKind) (xs ys : List (List ℕ)) →
    first_fault k (xs ++ ys) ≡ earlier (first_fault k xs) (first_fault k ys)
first_fault-append k [] ys = refl
first_fault-append k (x ∷ xs) ys = ap (earlier (fault k x)) (first_fault-append k xs ys)
    ∙ sym (earlier-assoc (fault k x) (first_fault k xs) (first_fault k ys))

-- strings without a fault have none when one more without a fault comes behind them
pub one-more : (k : TableKind) (xs : List (List ℕ)) (x : List ℕ) → first_fault k xs ≡ None → fault k x ≡ None →
    first_fault k (xs ++ x ∷ []) ≡ None
one-more k xs x none last = first_fault-append k xs (x ∷ []) ∙ (λ i. earlier (none i) (earlier (last i) None))

-- if there is no first of two faults, there is neither of them
pub neither : (a b : Option Refusal) → earlier a b ≡ None → (a ≡ None) × (b ≡ None)
neither None b none = (refl, none)
neither (Some r) b some = absurd (none-some r (sym some))

-- if strings have no fault, the first n of them have none
pub first-ones : (k : TableKind) (n : ℕ) (xs : List (List ℕ)) → first_fault k xs ≡ None →
    first_fault k (take n xs) ≡ None
first-ones k zero xs none = refl
first-ones k (suc n) [] none = refl
first-ones k (suc n) (x ∷ xs) none = let both = neither (fault k x) (first_fault k xs) none in
    λ i. earlier (both.0 i) (first-ones k n xs both.1 i)

-- if neither the held strings nor those that are interned have a fault, what is held then has none
pub all-interned : (k : TableKind) (xs strings : List (List ℕ)) → first_fault k xs ≡ None →
    first_fault k strings ≡ None → first_fault k (interned_all (key k) xs strings) ≡ None
all-interned k xs [] none more = none
all-interned k xs (s ∷ strings) none more = let both = neither (fault k s) (first_fault k strings) more in
    all-interned k (interned (key k) xs s) strings (by_known (is_some (first (key k) xs (key k s))) both.0)
    both.1
  where
    by_known : (known : Bool) → fault k s ≡ None → first_fault k (cond known xs (xs ++ s ∷ [])) ≡ None
    by_known true last = none
    by_known false last = one-more k xs s none last

-- what an interning leaves has no fault
after : (k : TableKind) (f : Option Refusal) (o : Option ℕ) (copies : Bool) (b : List ℕ) (s s' : State (List ℕ))
    (result : Result ℕ Refusal) → fault k b ≡ f → InternsBy copies b s (unless f o) result s'
    → first_fault k s.contents ≡ None → first_fault k s'.contents ≡ None
after k None None copies b s s' (Ok i) good taken none =
    ap (first_fault k) taken.contents ∙ one-more k s.contents b none good
after k None None copies b s s' (Err Full) good full none = ap (λ (x : State (List ℕ)). first_fault k x.contents) full.1 ∙ none
after k None None false b s s' (Err NoMemory) good kept none = ap (first_fault k) kept.contents ∙ none
after k None None true b s s' (Err NoMemory) good (inl kept) none = ap (λ (x : State (List ℕ)). first_fault k x.contents) kept.same ∙ none
after k None None true b s s' (Err NoMemory) good (inr kept) none = ap (first_fault k) kept.contents ∙ none
after k None None copies b s s' (Err _) good never none = absurd never
after k None (Some i) copies b s s' result good known none = ap (λ (x : State (List ℕ)). first_fault k x.contents) known.1 ∙ none
after k (Some r) o copies b s s' result bad refused none = ap (λ (x : State (List ℕ)). first_fault k x.contents) refused.1 ∙ none

-- so it is with the strings of a table that a handle holds
pub held : {o : Option AnyTable} {x : AnyTable} → o ≡ Some x → fault_in o ≡ None → IsFaultless (seen x)
held is none = ap fault_in (sym is) ∙ none

-- a table that changes, all of whose strings are what its kind takes: so are those that it then has
module _ {t t' : Seen} where
  with_contents : {Step : State (List ℕ) → State (List ℕ) → Type 0} (xs : List (List ℕ)) →
      IsChangedBy t t' Step → t'.state.contents ≡ xs → first_fault t.kind xs ≡ None → IsFaultless t'
  with_contents xs changed are none = (λ i. first_fault (changed.kind i) (are i)) ∙ none

  with_same : {Step : State (List ℕ) → State (List ℕ) → Type 0} → IsChangedBy t t' Step →
      t'.state ≡ t.state → IsFaultless t → IsFaultless t'
  with_same changed same = with_contents _ changed (ap (λ (x : State (List ℕ)). x.contents) same)

  -- a string is interned
  pub with_interned : (copies : Bool) (b : List ℕ) (result : Result ℕ Refusal) →
      IsChangedBy t t' (λ _ s'. InternsBy copies b t.state (look_up t b) result s') → IsFaultless t →
      IsFaultless t'
  with_interned copies b result changed faultless = with_contents _ changed refl
      (after t.kind _ (position t b) copies b t.state t'.state result refl changed.step faultless)

  -- a rollback
  pub with_first_ones : (n : ℕ) (result : Result (Unit {0}) StaleMark) →
      IsChangedBy t t' (λ s s'. TakesBack s n result s') → IsFaultless t → IsFaultless t'
  with_first_ones n (Ok done) changed faultless =
      with_contents _ changed changed.step.contents (first-ones t.kind n t.state.contents faultless)
  with_first_ones n (Err stale) changed faultless = with_same changed changed.step.1 faultless

  -- strings are interned, if they are as many as the places
  pub with_either : (good : Bool) (strings : List (List ℕ)) (symbols : List ℕ)
      (result : Result (Unit {0}) Refusal)
      → IsChangedBy t t' (λ _ s'. Either good (InternsOr IsRolledBack strings symbols t result s')
      ((result ≡ Err BadEnds) × (s' ≡ t.state))) → IsFaultless t → IsFaultless t'
  with_either true strings symbols (Ok done) changed faultless = with_contents _ changed changed.step.contents
      (all-interned t.kind t.state.contents strings faultless changed.step.faultless)
  with_either true strings symbols (Err refusal) changed faultless =
      with_contents _ changed changed.step.1.contents faultless
  with_either false strings symbols result changed faultless = with_same changed changed.step.1 faultless

  -- those of a frozen table are interned, if the bytes are one
  pub with_frozen : (bs places symbols : List ℕ) (result : Result (Unit {0}) Refusal) →
      IsChangedBy t t' (λ _ s'. Absorbs bs places symbols t result s') → IsFaultless t → IsFaultless t'
  with_frozen bs places symbols result changed faultless = elim changed.step [
    | inl some ↦ with_either (length places == length (strings bs)) (strings bs) symbols result
        (record { kind = changed.kind; hasher = changed.hasher; step = some.1 }) faultless
    | inr none ↦ with_same changed none.2 faultless
  ]

-- bytes that a kind doesn't take have no key, or not that of a string which it takes
other-key : (k : TableKind) (x b : List ℕ) (r : Refusal) → fault k x ≡ None → fault k b ≡ Some r →
    HasKey k b → key k x ≢ key k b
other-key (Owned rule) x b r good bad some same =
    none-some r (sym good ∙ ap (λ (ks : List (List ℕ)). broken rule (get_or ks 0 [])) same ∙ bad)
other-key Path x b r good bad some same = none-some r (sym some ∙ bad)
other-key (Packed rule) x b r good bad some same =
    none-some r (sym good ∙ ap (λ (ks : List (List ℕ)). broken rule (get_or ks 0 [])) same ∙ bad)

-- so a table doesn't have them
not-there : (k : TableKind) (xs : List (List ℕ)) (b : List ℕ) (r : Refusal) → first_fault k xs ≡ None →
    fault k b ≡ Some r → HasKey k b → first (key k) xs (key k b) ≡ None
not-there k [] b r none bad some = refl
not-there k (x ∷ xs) b r none bad some = let both = neither (fault k x) (first_fault k xs) none in rw (
  key_eq-unequal (key k x) (key k b) (other-key k x b r both.0 bad some),
  not-there k xs b r both.1 bad some,
) refl

-- what a look-up finds without a test
pub untested : (t : Seen) (b : List ℕ) → IsFaultless t → HasKey t.kind b → position t b ≡ found (look_up t b)
untested t b faultless some = by_fault (fault t.kind b) refl
  where
    by_fault : (f : Option Refusal) → fault t.kind b ≡ f → position t b ≡ found (unless f (position t b))
    by_fault None is = refl
    by_fault (Some r) is = not-there t.kind t.state.contents b r faultless is some
