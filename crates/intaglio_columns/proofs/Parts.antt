-- The part of a translation that is written before an error.
use Rattle.std.proofs.Common.{◌≡◌, ◌∙◌, sym, ap, refl, subst, ℕ, ◌+◌, ◌-◌, ◌^◌, min, Bool, true, false, List, [], ◌∷◌, ◌++◌, length, length-append, append-nil, append_assoc, arith, Option, Result, Ok, Err, IfErr, IsErrAnd, OnErr}
use Rattle.intaglio_columns.proofs.Names.{flat_map, Appends, append_known, flat_map-append, All-nil, All-cons, All-append, IsFront, front-none, front-then, AllFit, ReportsAmong, ReportsPiece, WritesPart, TranslateError, Misfit, Stream}

-- what holds anyway holds after an error
pub on-err : {V E P : Type 0} (r : Result V E) → P → OnErr r P
on-err (Ok v) p = tt
on-err (Err e) p = p

-- what holds of an error holds of the result of the `?` that passes it on
pub passed-on : {V E : Type 0} (P : E → Type 0) (r : Result V E) (e : E) → IsErrAnd r (λ y. y ≡ e) → P e →
    IfErr r P
passed-on P (Ok v) e is holds = absurd is
passed-on P (Err y) e is holds = subst P (sym is) holds

-- a piece that can't be translated is the first behind others that can
pub reports-at : (fits : List ℕ → Bool) (e : TranslateError) (before : List (List ℕ)) (x : List ℕ)
    (after : List (List ℕ)) (number here : ℕ) → AllFit fits before →
    here ≡ min (number + length before) (2 ^ 64 - 1) → ReportsPiece fits e x here
    → ReportsAmong fits e (before ++ x ∷ after) number
reports-at fits (Stream failure) before x after number here fit at reports front more others counted = tt
reports-at fits (Misfit position size) before x after number here fit at reports front more others counted =
    record {
      before = front ++ before;
      misfit = x;
      after = after ++ more;
      parts = simp append_assoc;
      fit = All-append (λ p. fits p ≡ true) front before others fit;
      unfit = reports.0;
      place = omega (arith, reports.1, at, counted, length-append front before);
      long = reports.2;
    }

module _ {fits : List ℕ → Bool} {translated : List ℕ → List ℕ} {old : Option (List ℕ)}
    {block : List ℕ} where
  -- pieces that were translated, and the part of others that was written
  pub part-behind : {mid new : Option (List ℕ)} {later : List ℕ} (front : List (List ℕ))
      {ps : List (List ℕ)} (more : List (List ℕ)) → AllFit fits front
      → Appends (append_known old block) (append_known mid later) (flat_map translated front) →
      IsFront old mid (block ++ flat_map translated front) → WritesPart fits translated mid later new ps
      → WritesPart fits translated old block new (front ++ (ps ++ more))
  part-behind {mid} {new} {later} front {ps} more fit put written part = record {
    before = front ++ part.before;
    after = part.after ++ more;
    parts = ap (λ t. front ++ (t ++ more)) part.parts ∙ simp append_assoc;
    fit = All-append (λ x. fits x ≡ true) front part.before fit part.fit;
    front = subst (λ t. IsFront old new (block ++ t)) (sym (flat_map-append translated front part.before))
        (front-then old mid new block later (flat_map translated front) (flat_map translated part.before) put
        written part.front);
  }

  -- of no pieces, the front of the block
  pub no-part : {new : Option (List ℕ)} → IsFront old new block → WritesPart fits translated old block new []
  no-part {new} front = record {
    before = [];
    after = [];
    parts = refl;
    fit = All-nil (λ x. fits x ≡ true);
    front = subst (IsFront old new) (sym (append-nil block)) front;
  }

  -- of one piece, which can be translated or not
  pub one-part : {new : Option (List ℕ)} {piece : List ℕ} →
      (fits piece ≡ true → IsFront old new (block ++ translated piece)) → (fits piece ≡ false → new ≡ old)
      → WritesPart fits translated old block new (piece ∷ [])
  one-part {new} {piece} fit unfit = by-fit (fits piece) refl
    where
      by-fit : (b : Bool) → fits piece ≡ b → WritesPart fits translated old block new (piece ∷ [])
      by-fit true is = record {
        before = piece ∷ [];
        after = [];
        parts = refl;
        fit = All-cons (λ x. fits x ≡ true) piece [] is (All-nil (λ x. fits x ≡ true));
        front = subst (λ t. IsFront old new (block ++ t)) (sym (append-nil (translated piece))) (fit is);
      }
      by-fit false is = record {
        before = [];
        after = piece ∷ [];
        parts = refl;
        fit = All-nil (λ x. fits x ≡ true);
        front = subst (λ t. IsFront old t (block ++ [])) (sym (unfit is)) (front-none old (block ++ []));
      }
