-- What was interned of an input, and what lines behind it add.
use Rattle.intaglio_columns.proofs.Names.{common_steps, Consumes, IsAtEnd, drop_all, take-append-drop, take_all, interned, interned_all, issue_from, State, is_ended, lines_of, ended-append, lines_of-append, texts, FrozenKind, Allows, distinct_lines, HasInterned, IsInterned, ReadsMore, Consumes-nil, Consumes-trans}
use Rattle.std.proofs.Common.{◌≡◌, ◌∙◌, ◌⊎◌, inl, inr, sym, ap, refl, subst, ℕ, zero, suc, ◌+◌, ◌-◌, ◌^◌, ◌<◌, ◌≤◌, min, Bool, false, true, List, [], ◌∷◌, ◌++◌, length, take, drop, get_or, Option, None, Some, IfSome, append_assoc, append-nil, length-append, arith}
use Rattle.std.proofs.Math.Seq.{take-suc}
use Rattle.std.proofs.lemmas.Str.{IsUtf8-append, IsUtf8-nil}
use Rattle.intaglio_interner.proofs.Held.{interned_all-append, interned_all-longer, issue_from-append}
use Rattle.intaglio_frozen.specs.declared.kind.FrozenKind.TheVariants.{Bytes, Text}

-- if a kind allows two inputs, it allows the one followed by the other
allows-append : (kind : FrozenKind) (front lines : List ℕ) → Allows kind front → Allows kind lines →
    Allows kind (front ++ lines)
allows-append Bytes front lines a b = tt
allows-append Text front lines a b = IsUtf8-append front lines a b

-- each kind allows an empty input
pub allows-nothing : (kind : FrozenKind) → Allows kind []
allows-nothing Bytes = tt
allows-nothing Text = IsUtf8-nil

-- what holds of any input holds of one that is known
pub of-any : (input : Option (List ℕ)) (P : List ℕ → Type 0) → ((bytes : List ℕ) → P bytes) → IfSome input P
of-any None P holds = tt
of-any (Some bytes) P holds = holds bytes

-- if a kind allows bytes with whole lines at the front, it allows that front and the rest
pub allows-parts : (kind : FrozenKind) (front rest : List ℕ) → is_ended front ≡ true → Allows kind (front ++ rest) →
    Allows kind front × Allows kind rest
allows-parts Bytes front rest ended all = (tt, tt)
allows-parts Text front rest ended all = texts front rest ended all

-- as many symbols are issued as there are strings
pub issue-length : (held cs : List (List ℕ)) → length (issue_from (λ w. w ∷ []) held cs) ≡ length cs
issue-length held [] = refl
issue-length held (c ∷ cs) = ap suc (issue-length (interned (λ w. w ∷ []) held c) cs)

-- what is held after lines behind others is what all of them give
pub held-append : (front lines : List ℕ) → is_ended front ≡ true →
    interned_all (λ w. w ∷ []) (distinct_lines front) (lines_of lines) ≡ distinct_lines (front ++ lines)
held-append front lines ended = grind (arith, common_steps, interned_all-append, lines_of-append)

module _ {kind : FrozenKind} {is_kept : Bool} {front : List ℕ} {old : State (List ℕ)} {symbols : List ℕ} {count : ℕ}
    (ended : is_ended front ≡ true) (done : IsInterned kind is_kept front old symbols count) where
  -- after more lines are interned behind a front of whole lines, all of both are
  pub lines-interned : {new : State (List ℕ)} {later : List ℕ} {after : ℕ} (lines : List ℕ) →
      Allows kind lines → new.contents ≡ interned_all (λ w. w ∷ []) old.contents (lines_of lines) →
      new.limit ≡ old.limit
      → (is_kept ≡ true → later ≡ symbols ++ issue_from (λ w. w ∷ []) old.contents (lines_of lines)) →
      after ≡ min (count + length (lines_of lines)) (2 ^ 64 - 1)
      → IsInterned kind is_kept (front ++ lines) new later after
  lines-interned lines allowed held limit issued counted = record {
    held = rw (held, done.held) (held-append front lines ended);
    limit = limit ∙ done.limit;
    issued = λ kept. rw (issued kept, done.issued kept, done.held, lines_of-append front lines ended)
        (sym (issue_from-append (λ w. w ∷ []) [] (lines_of front) (lines_of lines)));
    counted =
        rw (lines_of-append front lines ended) (omega (arith, counted, done.counted, length-append {A = List ℕ}));
    allowed = allows-append kind front lines done.allowed allowed;
  }

-- too many different lines at the front are too many
module _ (front lines rest : List ℕ) (ended : is_ended front ≡ true) (whole : (is_ended lines ≡ true)
    ⊎ (rest ≡ [])) where
  all-longer : length (distinct_lines (front ++ lines)) ≤ length (distinct_lines (front ++ (lines ++ rest)))
  all-longer =
      elim whole as (λ _. length (distinct_lines (front ++ lines))
      ≤ length (distinct_lines (front ++ (lines ++ rest)))) [
        | inl end ↦
            rw (
              ← append_assoc front lines rest,
              ← held-append (front ++ lines) rest (ended-append front lines ended end),
            )
            (interned_all-longer (λ w. w ∷ []) (distinct_lines (front ++ lines)) (lines_of rest))
        | inr none ↦ rw (none, append-nil lines) (omega arith)
      ]

  pub too-many : (n : ℕ) (old : List (List ℕ)) → old ≡ distinct_lines front →
      n < length (interned_all (λ w. w ∷ []) old (lines_of lines)) →
      n < length (distinct_lines (front ++ (lines ++ rest)))
  too-many n old is over =
      let more = rw (is, held-append front lines ended) at over in
      omega (arith, all-longer, more)

  -- an input that has lines that aren't allowed isn't allowed
  pub not-allowed : (kind : FrozenKind) → ¬ (Allows kind lines) → ¬ (Allows kind (front ++ (lines ++ rest)))
  not-allowed kind fault all =
      let behind = (allows-parts kind front (lines ++ rest) ended all).1 in
      elim whole as (λ _. ⊥) [
        | inl end ↦ fault (allows-parts kind lines rest end behind).0
        | inr none ↦ fault (subst (Allows kind) (ap (λ t. lines ++ t) none ∙ append-nil lines) behind)
      ]

-- whole lines at the front of bytes
pub ended-take : (bytes : List ℕ) (n : ℕ) → 0 < n → n ≤ length bytes → get_or bytes (n - 1) 0 ≡ 10 →
    is_ended (take n bytes) ≡ true
ended-take bytes zero some within ten = absurd (omega (arith, some))
ended-take bytes (suc n) some within ten =
    let last : suc n - 1 ≡ n = omega arith in
    rw (take-suc bytes n 0 (omega (arith, within)), subst (λ k. get_or bytes k 0 ≡ 10) last ten)
    (ended-last (take n bytes))
  where
    ended-last : (front : List ℕ) → is_ended (front ++ 10 ∷ []) ≡ true
    ended-last [] = refl
    ended-last (byte ∷ []) = refl
    ended-last (byte ∷ next ∷ more) = ended-last (next ∷ more)

-- before anything is read, nothing is interned, and all of the input is left
pub none-interned : {kind : FrozenKind} {is_kept : Bool} (input : Option (List ℕ)) {state : State (List ℕ)}
    {symbols : List ℕ} {count : ℕ} → IsInterned kind is_kept [] state symbols count
    → HasInterned kind is_kept input input [] state symbols count
none-interned input done = record { front = []; ended = refl; read = Consumes-nil input; done = done }

-- what holds of all that was read and what is left holds of the input
of-whole : (P : List ℕ → Type 0) (input left : Option (List ℕ)) (before : List ℕ) →
    Consumes input left before → ((rest : List ℕ) → (IsAtEnd left → rest ≡ []) → P (before ++ rest)) →
    IfSome input P
of-whole P None left before read holds = tt
of-whole P (Some input) None before read holds = absurd read
of-whole P (Some input) (Some rest) before read holds = subst P (sym read) (holds rest (λ end. end))

module _ {kind : FrozenKind} {is_kept : Bool} {input left : Option (List ℕ)} {bytes : List ℕ}
    {state : State (List ℕ)} {symbols : List ℕ} {count : ℕ}
    (has : HasInterned kind is_kept input left bytes state symbols count) where
  -- bytes that were read follow those that were held
  pub more-read : {later : Option (List ℕ)} {after : List ℕ} → ReadsMore left later bytes after →
      HasInterned kind is_kept input later after state symbols count
  more-read {later} reads = record {
    front = has.front;
    ended = has.ended;
    read = subst (Consumes input later) (append_assoc has.front bytes reads.0
        ∙ ap (λ t. has.front ++ t) (sym reads.1))
        (Consumes-trans input left later (has.front ++ bytes) reads.0 has.read reads.2);
    done = has.done;
  }

  -- lines at the front of the bytes that are held, which are whole if more bytes follow, and otherwise all
  module _ (n : ℕ) {held : List ℕ} (same : held ≡ bytes) where
    -- whole lines are interned, and dropped from the bytes
    pub more-interned : {new : State (List ℕ)} {later : List ℕ} {after : ℕ} → is_ended (take n bytes) ≡ true
        → ((front : List ℕ) → is_ended front ≡ true → IsInterned kind is_kept front state symbols count →
        IsInterned kind is_kept (front ++ take n held) new later after)
        → HasInterned kind is_kept input left (drop n bytes) new later after
    more-interned {new} {later} {after} end add = record {
      front = has.front ++ take n bytes;
      ended = ended-append has.front (take n bytes) has.ended end;
      read = subst (Consumes input left) (ap (λ t. has.front ++ t) (sym (take-append-drop n bytes))
          ∙ sym (append_assoc has.front (take n bytes) (drop n bytes))) has.read;
      done = subst (λ t. IsInterned kind is_kept (has.front ++ take n t) new later after) same
          (add has.front has.ended has.done);
    }

    -- at the end of the input all bytes are interned, and then all lines are
    pub all-interned : n ≡ length bytes → IsAtEnd left → (new : State (List ℕ)) (later : List ℕ) (after : ℕ)
        → ((front : List ℕ) → is_ended front ≡ true → IsInterned kind is_kept front state symbols count →
        IsInterned kind is_kept (front ++ take n held) new later after)
        → IfSome input (λ input. IsInterned kind is_kept input new later after)
    all-interned all end new later after add = of-whole _ input left _ has.read (λ rest is.
        rw (is end, append-nil (has.front ++ bytes))
        (subst (λ t. IsInterned kind is_kept (has.front ++ t) new later after)
        (ap (take n) same ∙ take_all n bytes (omega (arith, all))) (add has.front has.ended has.done)))

    whole : (more : Bool) (rest : List ℕ) → (more ≡ true → is_ended (take n bytes) ≡ true) →
        (more ≡ false → n ≡ length bytes) → (more ≡ false → rest ≡ [])
        → (is_ended (take n held) ≡ true) ⊎ (drop n bytes ++ rest ≡ [])
    whole true rest ended all none = inl (rw same (ended refl))
    whole false rest ended all none = inr (rw (drop_all n bytes (omega (arith, all refl))) (none refl))

    -- what is said of the lines, whatever comes before and behind, is said of the input
    pub said-of-lines : (P : List ℕ → Type 0) (more : Bool) → (more ≡ true → is_ended (take n bytes) ≡ true)
        → (more ≡ false → n ≡ length bytes) → (more ≡ false → IsAtEnd left)
        → ((front rest : List ℕ) → is_ended front ≡ true → (is_ended (take n held) ≡ true) ⊎ (rest ≡ []) →
        IsInterned kind is_kept front state symbols count → P (front ++ (take n held ++ rest))) → IfSome input P
    said-of-lines P more ended all end says = of-whole P input left (has.front ++ bytes) has.read (λ rest is.
        subst P (ap (λ t. has.front ++ (take n t ++ (drop n bytes ++ rest))) same
        ∙ ap (λ t. has.front ++ t) (sym (append_assoc (take n bytes) (drop n bytes) rest)
        ∙ ap (λ t. t ++ rest) (take-append-drop n bytes)) ∙ sym (append_assoc has.front bytes rest))
        (says has.front (drop n bytes ++ rest) has.ended (whole more rest ended all (λ last. is (end last)))
        has.done))
