-- A walk along a bucket.
use Rattle.std.proofs.Common.{◌≡◌, ℕ, ◌<◌, List, [], ◌∷◌, ◌++◌, length, cond, false, refl, sym, ap, ◌∙◌, arith, eqb, Option, Some, None, append_assoc}
use Rattle.std.specs.List.{IsDistinct}
use Rattle.intaglio_index.proofs.Names.{eq-eqb, HasPassed, IsAt, Placed, head_of, symbols_of}
use Rattle.intaglio_index.specs.Placed.{chain}
use Rattle.intaglio_index.proofs.ChainLemmas.{chain-distinct, chain-entry, symbol-at, Each-append}

-- what is left of a path at a candidate
abbrev pub rest_of : List (ℕ × ℕ) → Option (ℕ × ℕ) → List (ℕ × ℕ)
rest_of [] candidate = []
rest_of (x ∷ xs) None = []
rest_of (x ∷ xs) (Some e) = cond (eqb x.0 e.0) (x ∷ xs) (rest_of xs (Some e))

-- without a candidate nothing of a path is left
pub rest_of-none : (path : List (ℕ × ℕ)) → rest_of path None ≡ []
rest_of-none [] = refl
rest_of-none (x ∷ xs) = refl

-- if no symbol of a path occurs twice, what is left of it at the head of a rest is that rest
pub rest_of-split : (seen rest : List (ℕ × ℕ)) → IsDistinct eqb (symbols_of (seen ++ rest)) →
    rest_of (seen ++ rest) (head_of rest) ≡ rest
unfolding IsDistinct
rest_of-split seen [] d = rest_of-none (seen ++ [])
rest_of-split [] (e ∷ behind) d = rw (eq-eqb e.0 e.0 refl) refl
rest_of-split (x ∷ seen) (e ∷ behind) d =
    rw (symbol-at (λ s. eqb x.0 s ≡ false) seen e behind d.0) (rest_of-split seen (e ∷ behind) d.1)

-- if no symbol of a path occurs twice and the candidate is the head of a rest, that rest is left at it
pub rest_of-at : (path seen rest : List (ℕ × ℕ)) (candidate : Option (ℕ × ℕ)) → path ≡ seen ++ rest →
    IsDistinct eqb (symbols_of path) → candidate ≡ head_of rest → rest_of path candidate ≡ rest
rest_of-at path seen rest candidate split d next = rw (split, next) (rest_of-split seen rest (rw split at d))

-- a list with this head is the head and what stands behind it
pub some-rest : (rest : List (ℕ × ℕ)) (e : ℕ × ℕ) → Some e ≡ head_of rest → (behind : List (ℕ × ℕ))
    × (rest ≡ e ∷ behind)
some-rest [] e q = cc
some-rest (x ∷ xs) e q = (xs, cc)

-- the search for a hash's predecessor can begin at the head of a path, where it has passed no symbol
pub starts : (h : ℕ) (path : List (ℕ × ℕ)) (candidate : Option (ℕ × ℕ)) → candidate ≡ head_of path →
    IsAt h path None candidate
starts h path candidate e =
    record { walk = record { front = []; rest = path; split = refl; next = e; smaller = tt }; last_is = refl }

-- a walk over the symbols with smaller hashes
module _ {h : ℕ} {path : List (ℕ × ℕ)} where
  -- its candidate stands behind them
  pub standing : {e : ℕ × ℕ} (walk : HasPassed h path (Some e)) → (behind : List (ℕ × ℕ))
      × (path ≡ walk.front ++ e ∷ behind)
  standing {e} walk =
      let rest = some-rest walk.rest e walk.next in
      (rest.0, walk.split ∙ ap (λ r. walk.front ++ r) rest.1)

  -- it moves past a candidate with a smaller hash
  pub moves : {s k : ℕ} {next : Option (ℕ × ℕ)} (walk : HasPassed h path (Some (s, k))) → k < h →
      ((before behind : List (ℕ × ℕ)) → path ≡ before ++ (s, k) ∷ behind → next ≡ head_of behind) →
      (on : HasPassed h path next) × (on.front ≡ walk.front ++ (s, k) ∷ [])
  moves {s} {k} walk l after =
      let rest = standing walk in (
        record {
          front = walk.front ++ (s, k) ∷ [];
          rest = rest.0;
          split = rest.1 ∙ sym (append_assoc walk.front ((s, k) ∷ []) rest.0);
          next = after walk.front rest.0 rest.1;
          smaller = Each-append (λ (e : ℕ × ℕ). e.1 < h) walk.front ((s, k) ∷ []) walk.smaller (l, tt);
        },
        refl,
      )

  -- and then that is the last symbol before the next candidate
  pub goes-on : {last : Option ℕ} {s k : ℕ} {next : Option (ℕ × ℕ)} → IsAt h path last (Some (s, k)) → k < h →
      ((before behind : List (ℕ × ℕ)) → path ≡ before ++ (s, k) ∷ behind → next ≡ head_of behind) →
      IsAt h path (Some s) next
  goes-on {k = k} at l after = let on = moves at.walk l after in
      record { walk = on.0; last_is = (at.walk.front, k, on.1) }

module _ (v : Placed) (b : ℕ) where
  -- no symbol is in a bucket twice
  pub distinct : IsDistinct eqb (symbols_of (chain v b))
  unfolding chain
  distinct = chain-distinct v.count b v.hashes

  -- behind an entry there is less of the path than from it on
  pub falls : {h s k : ℕ} {next : Option (ℕ × ℕ)} → HasPassed h (chain v b) (Some (s, k)) →
      ((before behind : List (ℕ × ℕ)) → chain v b ≡ before ++ (s, k) ∷ behind → next ≡ head_of behind) →
      length (rest_of (chain v b) next) < length (rest_of (chain v b) (Some (s, k)))
  falls {s = s} {k = k} {next = next} walk after =
      let rest = standing walk in
      let now = rest_of-at (chain v b) walk.front ((s, k) ∷ rest.0) (Some (s, k)) rest.1 distinct refl in
      let then = rest_of-at (chain v b) (walk.front ++ (s, k) ∷ []) rest.0 next
      (rest.1 ∙ sym (append_assoc walk.front ((s, k) ∷ []) rest.0)) distinct (after walk.front rest.0 rest.1) in
      rw (now, then) (omega arith)

  -- the candidate of a walk is a placed symbol
  pub within : {h s k : ℕ} → HasPassed h (chain v b) (Some (s, k)) → s < length v.hashes
  unfolding chain
  within walk =
      let rest = standing walk in
      (chain-entry v.count b v.hashes _ _ _ rest.1).0.0
