-- The rows that a test selects, among the codes so far.
use Rattle.std.proofs.Common.{◌≡◌, ◌∙◌, ℕ, suc, ◌+◌, ◌<◌, Bool, true, false, cond, List, [], ◌∷◌, ◌++◌, length, map, take, get_or, refl, ap, arith, length-take-le, ◌==◌, not, sym, eq-eqb}
use Rattle.intaglio_columns.proofs.Names.{take_at_read, append-nil, map-append, rows_from, ne_eqb, rank_of}
use Rattle.intaglio_columns.proofs.counting.ranks.Goals as goal

-- putting a number in front of a list, or not, comes to the same before and after an append
cond-append : (b : Bool) (k : ℕ) (xs ys : List ℕ) →
    cond b (k ∷ (xs ++ ys)) (xs ++ ys) ≡ cond b (k ∷ xs) xs ++ ys
cond-append true k xs ys = refl
cond-append false k xs ys = refl

-- with one code more, the rows whose codes pass are those before, and the last row if its code passes
rows-more : (p : ℕ → Bool) (k : ℕ) (xs : List ℕ) (c : ℕ) →
    rows_from p k (xs ++ c ∷ []) ≡ rows_from p k xs ++ cond (p c) ((k + length xs) ∷ []) []
rows-more p k [] c = ap (λ m. cond (p c) (m ∷ []) []) (omega arith)
rows-more p k (x ∷ xs) c =
    let place : k + 1 + length xs ≡ k + suc (length xs) = omega arith in
    rw (rows-more p (k + 1) xs c, place)
    (cond-append (p x) k (rows_from p (k + 1) xs) (cond (p c) ((k + suc (length xs)) ∷ []) []))

module _ (p : ℕ → Bool) (cs : List ℕ) (i : ℕ) (l : i < length cs) where
  step : rows_from p 0 (take (i + 1) cs) ≡ rows_from p 0 (take i cs) ++ cond (p (get_or cs i 0)) (i ∷ []) []
  step =
      let place : 0 + length (take i cs) ≡ i = omega (arith, length-take-le i cs (omega (arith, l))) in
      rw ((take_at_read cs i 0 l).1, rows-more p 0 (take i cs) (get_or cs i 0), place) refl

  selected : {X : Type 0} (f : ℕ → X) → p (get_or cs i 0) ≡ true →
      map f (rows_from p 0 (take (i + 1) cs)) ≡ map f (rows_from p 0 (take i cs)) ++ f i ∷ []
  selected f e = rw (step, e) (map-append f (rows_from p 0 (take i cs)) (i ∷ []))

  unselected : p (get_or cs i 0) ≡ false → rows_from p 0 (take (i + 1) cs) ≡ rows_from p 0 (take i cs)
  unselected e = rw (step, e) (append-nil (rows_from p 0 (take i cs)))

pub loop-symbol-preserved-then-count-eq0 : goal.loop-symbol-preserved-then-count-eq0
loop-symbol-preserved-then-count-eq0 c =
    let counts = c.args.counts.now in
    let symbol = c.loop-symbol.symbol in
    let unlike = ap not (eq-eqb (get_or counts symbol 0) 0 c.if-count-eq0.true) in
    c.loop-symbol.invariant ∙ ap (map (rank_of counts))
    (sym (unselected (λ n. not (n == 0)) counts symbol c.loop-symbol-test.true unlike))

pub loop-symbol-preserved : goal.loop-symbol-preserved
loop-symbol-preserved c =
    let counts = c.args.counts.now in
    let symbol = c.loop-symbol.symbol in
    let like = ap not (ne_eqb (get_or counts symbol 0) 0 c.if-count-eq0.false) in
    c.in_ok-push.ensures.items ∙ ap (λ t. t ++ rank_of counts symbol ∷ []) c.loop-symbol.invariant
    ∙ sym (selected (λ n. not (n == 0)) counts symbol c.loop-symbol-test.true (rank_of counts) like)
