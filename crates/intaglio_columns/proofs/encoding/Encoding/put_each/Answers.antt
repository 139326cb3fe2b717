-- Groups of lines at the front of bytes.
use Rattle.std.proofs.Common.{◌≡◌, ◌∙◌, sym, ap, refl, subst, ℕ, zero, suc, ◌+◌, ◌-◌, ◌^◌, ◌<◌, ◌≤◌, min, Bool, true, List, [], ◌∷◌, ◌++◌, length, map, take, drop, drop-cons, get_or, Some, arith}
use Rattle.intaglio_columns.proofs.Names.{slice_get, get_or-map, length-map, length-take, take-append-drop, take_all, All-nil, All-cons, All-append, slice_get_within, get_or_from_slice_get, AllFit, ReportsAmong, ReportsPiece, WritesPart, TranslateError, encoded_line, has_code}
use Rattle.intaglio_columns.proofs.Listed.{next, appends-next, front-next}
use Rattle.intaglio_columns.proofs.Parts.{reports-at, on-err, one-part, part-behind, passed-on}
use Rattle.intaglio_columns.proofs.encoding.Encoding.put_each.Goals as goal

module _ (fits : List ℕ → Bool) (xs : List (List ℕ)) (i : ℕ) (x : List ℕ) (at : slice_get xs i ≡ Some x) where
  -- the pieces so far can be translated, and the next one
  fit-next : AllFit fits (take i xs) → fits x ≡ true → AllFit fits (take (i + 1) xs)
  fit-next before fit =
      rw (next xs i x at)
      (All-append (λ p. fits p ≡ true) (take i xs) (x ∷ []) before
      (All-cons (λ p. fits p ≡ true) x [] fit (All-nil (λ p. fits p ≡ true))))

  all : xs ≡ take i xs ++ x ∷ drop (suc i) xs
  all =
      let value = get_or_from_slice_get xs i x x at in
      sym (take-append-drop i xs) ∙ ap (λ t. take i xs ++ t) (drop-cons xs i x (slice_get_within xs i x at))
      ∙ ap (λ v. take i xs ++ v ∷ drop (suc i) xs) value

  -- the next one can't, and is the first
  reports-next : (e : TranslateError) (number here : ℕ) → AllFit fits (take i xs) →
      here ≡ min (number + i) (2 ^ 64 - 1) → ReportsPiece fits e x here → ReportsAmong fits e xs number
  reports-next e number here before place reports =
      subst (λ ps. ReportsAmong fits e ps number) (sym all)
      (reports-at fits e (take i xs) x (drop (suc i) xs) number here before
      (omega (arith, place, length-take i xs, slice_get_within xs i x at)) reports)

-- an item of a list that is mapped
module _ {X : Type 0} where
  mapped-at : (f : X → List ℕ) (xs : List X) (i : ℕ) (d : X) → i < length xs →
      slice_get (map f xs) i ≡ Some (f (get_or xs i d))
  mapped-at f [] i d lt = absurd (omega arith)
  mapped-at f (x ∷ xs) zero d lt = refl
  mapped-at f (x ∷ xs) (suc i) d lt = mapped-at f xs i d (omega arith)

  mapped-get : {Y : Type 0} (f : X → Y) (xs : List X) (ys : List Y) (i : ℕ) (d : X) (e : Y) →
      i < length xs → ys ≡ map f xs → get_or ys i e ≡ f (get_or xs i d)
  mapped-get f xs ys i d e lt is = ap (λ t. get_or t i e) is ∙ get_or-map f xs i d e lt

  all-mapped : (f : X → List ℕ) (xs : List X) (i : ℕ) → length xs ≤ i → take i (map f xs) ≡ map f xs
  all-mapped f xs i past = take_all i (map f xs) (rw (length-map xs f) past)

pub loop-i-preserved : goal.loop-i-preserved
loop-i-preserved g c =
    let table = g.D.Dictionary.strings c.args.self.now.table.now in
    let lines = map (λ line. line.now) c.args.lines.now in
    let at = mapped-at (λ line. line.now) c.args.lines.now c.loop-i.i _ c.loop-i-test.true in
    record {
      fit = fit-next (has_code table c.args.self.now.missing) lines c.loop-i.i _ at c.loop-i.invariant.fit
          c.in_ok-put_next.ensures.fits;
      put = appends-next lines c.loop-i.i _ at (encoded_line table) _ _ _ _ refl c.loop-i.invariant.put
          c.in_ok-put_next.ensures.put;
      front = front-next lines c.loop-i.i _ at (encoded_line table) _ _ _ _ _ c.loop-i.invariant.put
          c.loop-i.invariant.front (c.put_next.ensures.front c.in_ok-put_next.ensures.fits);
    }

pub put_next-requires : goal.put_next-requires
put_next-requires g c =
    c.index-found-i.is
    ∙ mapped-get _ c.args.lines.now c.args.found.now c.loop-i.i (record { ref_ptr = (0, 0); now = [] })
    c.index-found-i.result c.loop-i-test.true c.requires

pub returns-in_err-put_next-clause-misfit : goal.returns-in_err-put_next-clause-misfit
returns-in_err-put_next-clause-misfit g c =
    let table = g.D.Dictionary.strings c.args.self.now.table.now in
    let lines = map (λ line. line.now) c.args.lines.now in
    let at = mapped-at (λ line. line.now) c.args.lines.now c.loop-i.i _ c.loop-i-test.true in
    passed-on _ c.from_residual.result _ c.from_residual.ensures.1 (reports-next (has_code table c.args.self.now.missing) lines c.loop-i.i
    _ at c.in_err-put_next.field-0.0 c.args.number _ c.loop-i.invariant.fit c.saturating_add.ensures
    c.in_err-put_next.ensures.misfit)

pub returns-in_err-put_next-clause-part : goal.returns-in_err-put_next-clause-part
returns-in_err-put_next-clause-part g c =
    let table = g.D.Dictionary.strings c.args.self.now.table.now in
    let lines = map (λ line. line.now) c.args.lines.now in
    let at = mapped-at (λ line. line.now) c.args.lines.now c.loop-i.i _ c.loop-i-test.true in
    let fits = has_code table c.args.self.now.missing in
    on-err c.from_residual.result
    (subst (WritesPart fits (encoded_line table) _ _ _) (sym (all fits lines c.loop-i.i _ at))
    (part-behind (take c.loop-i.i lines) (drop (suc c.loop-i.i) lines) c.loop-i.invariant.fit
    c.loop-i.invariant.put c.loop-i.invariant.front
    (one-part c.put_next.ensures.front (λ unfit. ap g.W.Write.contents (c.put_next.ensures.unfit unfit)))))

-- after all lines
pub returns-clause-fit : goal.returns-clause-fit
returns-clause-fit g c =
    subst (AllFit (has_code (g.D.Dictionary.strings c.args.self.now.table.now) c.args.self.now.missing))
    (all-mapped (λ line. line.now) c.args.lines.now c.loop-i.i c.loop-i-test.false) c.loop-i.invariant.fit

pub returns-clause-put : goal.returns-clause-put
returns-clause-put g c =
    rw (all-mapped (λ line. line.now) c.args.lines.now c.loop-i.i c.loop-i-test.false) at c.loop-i.invariant.put

pub returns-clause-front : goal.returns-clause-front
returns-clause-front g c =
    rw (all-mapped (λ line. line.now) c.args.lines.now c.loop-i.i c.loop-i-test.false) at c.loop-i.invariant.front
