-- An input that is translated piece by piece.
use Rattle.std.proofs.Common.{◌≡◌, ◌∙◌, sym, ap, refl, subst, ℕ, ◌+◌, ◌-◌, ◌^◌, min, eqb, Bool, true, false, Result, Ok, Err, IfOk, OnOk, List, [], ◌∷◌, ◌++◌, length, Option, None, Some, IfSome, length-append, append-nil, append_assoc, arith}
use Rattle.intaglio_columns.proofs.Names.{flat_map, Appends, Consumes, IsAtEnd, append_known, flat_map-append, All-nil, All-cons, All-append, IsFront, Appends-append, front-none, front-then, held-none, held-nothing, AllFit, HasTranslated, IsFailure, IsSplit, ReadsMore, ReportsAmong, ReportsMisfit, ReportsPiece, WritesPart, last_piece, TranslateError, Misfit, Stream}
use Rattle.intaglio_columns.proofs.Parts.{no-part, part-behind, reports-at}

module _ (pieces : List ℕ → List (List ℕ)) where
  -- whatever is left follows the bytes: their pieces begin with these, and the others are those of the rest
  abbrev pub Begins : Option (List ℕ) → List ℕ → List (List ℕ) → List ℕ → Type 0
  Begins left bytes ps rest =
      (more : List ℕ) → (IsAtEnd left → more ≡ []) → pieces (bytes ++ more) ≡ ps ++ pieces (rest ++ more)

  split-none : (input : Option (List ℕ)) → IsSplit pieces input [] [] input
  split-none None = tt
  split-none (Some input) = refl

  split-read : (input left later : Option (List ℕ)) (front : List (List ℕ)) (bytes read : List ℕ) →
      Consumes left later read → IsSplit pieces input front bytes left
      → IsSplit pieces input front (bytes ++ read) later
  split-read None left later front bytes read takes split = tt
  split-read (Some input) None later front bytes read takes split = absurd split
  split-read (Some input) (Some rest) None front bytes read takes split = absurd takes
  split-read (Some input) (Some rest) (Some more) front bytes read takes split =
      split ∙ ap (λ t. front ++ pieces (bytes ++ t)) takes
      ∙ ap (λ t. front ++ pieces t) (sym (append_assoc bytes read more))

  split-next : (input left : Option (List ℕ)) (front : List (List ℕ)) (bytes : List ℕ) (ps : List (List ℕ))
      (rest : List ℕ) → Begins left bytes ps rest → IsSplit pieces input front bytes left
      → IsSplit pieces input (front ++ ps) rest left
  split-next None left front bytes ps rest first split = tt
  split-next (Some input) None front bytes ps rest first split = absurd split
  split-next (Some input) (Some left) front bytes ps rest first split =
      split ∙ ap (λ t. front ++ t) (first left (λ end. end)) ∙ sym (append_assoc front ps (pieces (rest ++ left)))

  -- what holds of all pieces, whatever is left, holds of those of the input
  of-split : (input left : Option (List ℕ)) (front : List (List ℕ)) (bytes : List ℕ)
      (P : List (List ℕ) → Type 0) → IsSplit pieces input front bytes left
      → ((more : List ℕ) → (IsAtEnd left → more ≡ []) → P (front ++ pieces (bytes ++ more)))
      → IfSome input (λ input. P (pieces input))
  of-split None left front bytes P split holds = tt
  of-split (Some input) None front bytes P split holds = absurd split
  of-split (Some input) (Some left) front bytes P split holds = subst P (sym split) (holds left (λ end. end))

  -- at the end of the input, bytes that are one piece
  pub last-begins : (left : Option (List ℕ)) (piece : List ℕ) → pieces [] ≡ [] → pieces piece ≡ piece ∷ [] →
      IsAtEnd left → Begins left piece (piece ∷ []) []
  last-begins left piece none one end more is = rw (is end, append-nil piece, one, none) refl

  -- nothing was read
  pub none-translated : (fits : List ℕ → Bool) (translated : List ℕ → List ℕ) (input old : Option (List ℕ))
      (block : List ℕ) → block ≡ [] → HasTranslated pieces fits translated input old old block [] input 0
  none-translated fits translated input old block empty = record {
    front = [];
    split = split-none input;
    fit = All-nil (λ x. fits x ≡ true);
    put = subst (λ t. Appends old (append_known old t) []) (sym empty) (held-none old);
    written = front-none old [];
    counted = refl;
  }

-- a block that was put and is written is written
written-out : (old mid new : Option (List ℕ)) (block bytes : List ℕ) →
    Appends old (append_known mid block) bytes → Appends mid new block → Appends old new bytes
written-out None mid new block bytes put out = tt
written-out (Some x) None new block bytes put out = absurd put
written-out (Some x) (Some y) None block bytes put out = absurd out
written-out (Some x) (Some y) (Some z) block bytes put out = out ∙ put

module _ {pieces : List ℕ → List (List ℕ)} {fits : List ℕ → Bool} {translated : List ℕ → List ℕ}
    {input old mid left : Option (List ℕ)} {block bytes : List ℕ} {number : ℕ}
    (done : HasTranslated pieces fits translated input old mid block bytes left number) where
  -- more was read
  pub reads-more : {later : Option (List ℕ)} {after : List ℕ} → ReadsMore left later bytes after →
      HasTranslated pieces fits translated input old mid block after later number
  reads-more {later} {after} reads = record {
    front = done.front;
    split = subst (λ t. IsSplit pieces input done.front t later) (sym reads.1)
        (split-read pieces input left later done.front bytes reads.0 reads.2 done.split);
    fit = done.fit;
    put = done.put;
    written = done.written;
    counted = done.counted;
  }

  -- pieces more are translated, behind which the rest is
  pub group-translated : {new : Option (List ℕ)} {later : List ℕ} (count : ℕ) (ps : List (List ℕ))
      (rest : List ℕ) → Begins pieces left bytes ps rest → AllFit fits ps →
      Appends (append_known mid block) (append_known new later) (flat_map translated ps) →
      IsFront mid new (block ++ flat_map translated ps) → count ≡ min (number + length ps) (2 ^ 64 - 1)
      → HasTranslated pieces fits translated input old new later rest left count
  group-translated {new} {later} count ps rest first fit more part next = record {
    front = done.front ++ ps;
    split = split-next pieces input left done.front bytes ps rest first done.split;
    fit = All-append (λ x. fits x ≡ true) done.front ps done.fit fit;
    put = rw (flat_map-append translated done.front ps)
        (Appends-append old (append_known mid block) (append_known new later)
        (flat_map translated done.front) (flat_map translated ps) done.put more);
    written = rw (flat_map-append translated done.front ps)
        (front-then old mid new [] block (flat_map translated done.front) (flat_map translated ps)
        (held-nothing old (append_known mid block) (flat_map translated done.front) done.put) done.written part);
    counted = omega (arith, next, done.counted, length-append done.front ps);
  }

  -- of one piece
  pub next-translated : {new : Option (List ℕ)} {later : List ℕ} (count : ℕ) (piece rest : List ℕ) →
      Begins pieces left bytes (piece ∷ []) rest → fits piece ≡ true →
      Appends (append_known mid block) (append_known new later) (translated piece) →
      IsFront mid new (block ++ translated piece) → count ≡ min (number + 1) (2 ^ 64 - 1)
      → HasTranslated pieces fits translated input old new later rest left count
  next-translated {new} count piece rest first fit more part next =
      group-translated count (piece ∷ []) rest first
      (All-cons (λ x. fits x ≡ true) piece [] fit (All-nil (λ x. fits x ≡ true)))
      (rw (append-nil (translated piece)) more)
      (subst (λ t. IsFront mid new (block ++ t)) (sym (append-nil (translated piece))) part) next

  of-all : (P : List (List ℕ) → Type 0) →
      ((more : List ℕ) → (IsAtEnd left → more ≡ []) → P (done.front ++ pieces (bytes ++ more)))
      → IfSome input (λ input. P (pieces input))
  of-all P holds = of-split pieces input left done.front bytes P done.split holds

  -- pieces that were translated, and the part of others that was written
  pub group-part : {new : Option (List ℕ)} (ps : List (List ℕ)) (rest : List ℕ) →
      Begins pieces left bytes ps rest → WritesPart fits translated mid block new ps
      → IfSome input (λ input. WritesPart fits translated old [] new (pieces input))
  group-part {new} ps rest first part = of-all (WritesPart fits translated old [] new) (λ more is.
      subst (λ t. WritesPart fits translated old [] new (done.front ++ t)) (sym (first more is))
      (part-behind done.front (pieces (rest ++ more)) done.fit
      (held-nothing old (append_known mid block) (flat_map translated done.front) done.put) done.written part))

  -- of the block alone
  pub block-part : (new : Option (List ℕ)) → IsFront mid new block
      → IfSome input (λ input. WritesPart fits translated old [] new (pieces input))
  block-part new front = group-part [] bytes (λ more is. refl) (no-part front)

  -- nothing more was written
  pub kept-part : IfSome input (λ input. WritesPart fits translated old [] mid (pieces input))
  kept-part = block-part mid (front-none mid block)

  -- the first of some pieces that can't be translated
  pub group-misfit : (e : TranslateError) (ps : List (List ℕ)) (rest : List ℕ) →
      Begins pieces left bytes ps rest → ReportsAmong fits e ps number
      → IfSome input (λ input. ReportsMisfit fits e (pieces input))
  group-misfit e ps rest first reports = of-all (ReportsMisfit fits e) (λ more is.
      subst (λ t. ReportsMisfit fits e (done.front ++ t)) (sym (first more is))
      (reports done.front (pieces (rest ++ more)) done.fit done.counted))

  -- the same of one piece
  pub next-misfit : (e : TranslateError) (piece rest : List ℕ) → Begins pieces left bytes (piece ∷ []) rest
      → ReportsPiece fits e piece number → IfSome input (λ input. ReportsMisfit fits e (pieces input))
  next-misfit e piece rest first reports =
      group-misfit e (piece ∷ []) rest first (reports-at fits e [] piece [] number number
      (All-nil (λ x. fits x ≡ true)) (omega (arith, done.counted)) reports)

  -- at the end all pieces are translated, and written with the block
  pub all-written : (new : Option (List ℕ)) → pieces [] ≡ [] → IsAtEnd left → bytes ≡ [] → Appends mid new block
      → IfSome input (λ input. Appends old new (flat_map translated (pieces input)))
  all-written new none end empty out = of-all (λ ps. Appends old new (flat_map translated ps)) (λ more is.
      subst (λ ps. Appends old new (flat_map translated ps)) (sym (ap (λ t. done.front ++ t)
      (ap (λ t. pieces (t ++ more)) empty ∙ ap pieces (is end) ∙ none) ∙ append-nil done.front))
      (written-out old mid new block (flat_map translated done.front) done.put out))

-- a failed allocation, read or write is reported whatever the pieces are
pub failure-reports : (fits : List ℕ → Bool) (pieces : List ℕ → List (List ℕ)) (input : Option (List ℕ))
    (e : TranslateError) → IsFailure e → IfSome input (λ input. ReportsMisfit fits e (pieces input))
failure-reports fits pieces None e fails = tt
failure-reports fits pieces (Some input) (Misfit position size) fails = absurd fails
failure-reports fits pieces (Some input) (Stream failure) fails = tt

-- bytes that may be empty are a piece where they aren't
pub one-piece : (bytes : List ℕ) (b : Bool) → b ≡ eqb (length bytes) 0 → b ≡ false →
    last_piece bytes ≡ bytes ∷ []
one-piece [] b is unlike = cc
one-piece (x ∷ bytes) b is unlike = refl

-- what follows of a value
pub of-ok : {V E Q R : Type 0} (P S : V → Type 0) (r : Result V E) → OnOk r Q → OnOk r R → IfOk r P →
    ((v : V) → Q → R → P v → S v) → IfOk r S
of-ok P S (Ok v) q r p f = f v q r p
of-ok P S (Err e) q r p f = tt
