-- Strings of parts that all belong to one shard: so do those of the union.
use Rattle.std.proofs.Common.{◌≡◌, ◌∙◌, ◌==◌, ℕ, zero, suc, Bool, true, false, cond, List, [], ◌∷◌, map, Some, refl, sym, ap, subst}
use Rattle.intaglio_columns.proofs.Names.{filter, slice_get, eqb-true, eq-eqb, union, BelongTo, shard_of, AreOwn}
use Rattle.intaglio_frozen.proofs.Filtered.{filter-union}
use Rattle.intaglio_columns.proofs.Parts.{passed-on}
use Rattle.intaglio_columns.proofs.shard_merging.merge_shard.Goals as goal

module _ (p : List ℕ → Bool) where
  -- if all strings pass, those that pass are all
  all-pass : (ws : List (List ℕ)) → ((i : ℕ) (w : List ℕ) → slice_get ws i ≡ Some w → p w ≡ true) →
      filter p ws ≡ ws
  all-pass [] each = refl
  all-pass (w ∷ ws) each = rw (each 0 w refl) (ap (λ t. w ∷ t) (all-pass ws (λ i v at. each (suc i) v at)))

  -- of several lists
  all-pass-each : (lists : List (List (List ℕ)))
      → ((k : ℕ) (ws : List (List ℕ)) → slice_get lists k ≡ Some ws → (i : ℕ) (w : List ℕ) →
      slice_get ws i ≡ Some w → p w ≡ true)
      → map (filter p) lists ≡ lists
  all-pass-each [] each = refl
  all-pass-each (ws ∷ lists) each =
      rw (all-pass ws (each 0 ws refl), all-pass-each lists (λ k vs at. each (suc k) vs at)) refl

  passed-by : (w v : List ℕ) (ws : List (List ℕ)) (passes : Bool) → p v ≡ passes
      → ((i : ℕ) → slice_get (filter p ws) i ≡ Some w → p w ≡ true)
      → (i : ℕ) → slice_get (cond passes (v ∷ filter p ws) (filter p ws)) i ≡ Some w → p w ≡ true
  passed-by w v ws true is rest zero at = let same : v ≡ w = cc in subst (λ t. p t ≡ true) same is
  passed-by w v ws true is rest (suc i) at = rest i at
  passed-by w v ws false is rest i at = rest i at

  -- a string of those that pass passes
  passed : (w : List ℕ) (ws : List (List ℕ)) (i : ℕ) → slice_get (filter p ws) i ≡ Some w → p w ≡ true
  passed w [] i at = cc
  passed w (v ∷ ws) i at = passed-by w v ws (p v) refl (passed w ws) i at

-- if each string of each part belongs to a shard, so does each of the union
own-union : (count number : ℕ) (parts : List (List (List ℕ))) → AreOwn count number parts →
    BelongTo count number (union parts)
own-union count number parts own i w at =
    let p = λ (v : List ℕ). shard_of count v == number in
    let each : map (filter p) parts ≡ parts =
    all-pass-each p parts (λ k ws there j v is. eq-eqb (shard_of count v) number (own k ws there j v is)) in
    let all : filter p (union parts) ≡ union parts = filter-union p parts ∙ ap union each in
    eqb-true (shard_of count w) number
    (passed p w (union parts) i (subst (λ t. slice_get t i ≡ Some w) (sym all) at))

pub returns-in_err-check_own-clause-err : goal.returns-in_err-check_own-clause-err
returns-in_err-check_own-clause-err g c =
    passed-on _ c.from_residual.result _ c.from_residual.ensures.1 (c.in_err-check_own.ensures.err c.args.kind)

pub returns-clause-own : goal.returns-clause-own
returns-clause-own g c =
    own-union c.args.shards c.args.shard c.args.parts.now c.in_ok-check_own.ensures.own
