-- Steps in order with their costs, and one step more.
use Rattle.intaglio_interner.proofs.Names.{◌≡◌, List, [], ◌∷◌, ◌++◌, append_assoc, append-nil, refl, sym, ap, Key, Event, hashed, Adds, InOrder, hashed_keys}

-- the keys hashed by events and others behind them are those of the first, and then those of the others
pub hashed_keys-append : (a b : List Event) → hashed_keys (a ++ b) ≡ hashed_keys a ++ hashed_keys b
hashed_keys-append [] b = refl
hashed_keys-append (hashed k ∷ a) b = ap (λ (ks : List Key). k ∷ ks) (hashed_keys-append a b)
hashed_keys-append (_ ∷ a) b = hashed_keys-append a b

module _ {S X Y : Type 0} (OneStep : S → X → Y → List Event → S → Type 0) where
  InOrder-push : (old : S) (xs : List X) (ys : List Y) (cost : List Event) (mid : S) (x : X) (y : Y)
      (now : List Event) (new : S)
      → InOrder OneStep old xs ys cost mid → OneStep mid x y now new →
      InOrder OneStep old (xs ++ x ∷ []) (ys ++ y ∷ []) (cost ++ now) new
  InOrder-push old [] [] cost mid x y now new run one =
      (new, now, [], rw run.0 (sym (append-nil now)), rw (← run.1) one, (refl, refl))
  InOrder-push old (c ∷ xs) (r ∷ ys) cost mid x y now new run one = (
    run.0,
    run.1,
    run.2 ++ now,
    rw (run.3, append_assoc) refl,
    run.4,
    InOrder-push run.0 xs ys run.2 mid x y now new run.5 one,
  )
  InOrder-push old _ _ cost mid x y now new run one = absurd run

  -- the events of some steps, and those of one step more
  pub Adds-push : (old : S) (xs : List X) (ys : List Y) {mid : S} {x : X} {y : Y} {new : S}
      (before : List Event) {between after : List Event}
      → Adds before between (λ cost. InOrder OneStep old xs ys cost mid) →
      Adds between after (λ now. OneStep mid x y now new)
      → Adds before after (λ cost. InOrder OneStep old (xs ++ x ∷ []) (ys ++ y ∷ []) cost new)
  Adds-push old xs ys {mid} {x} {y} {new} before run one = (
    run.0 ++ one.0,
    rw (one.1, run.1, append_assoc) refl,
    InOrder-push old xs ys run.0 mid x y one.0 new run.2 one.2,
  )
