-- The symbols of words are marked, one word after the other.
use Rattle.std.proofs.Common.{◌≡◌, ◌∙◌, ℕ, ◌<◌, ◌≤◌, inl, inr, Bool, true, false, List, [], ◌∷◌, ◌++◌, length, get_or, set, slice_get, Contains, Option, Some, sym, ap, arith, length-set, get_or-set_other, ◌+◌, Bor, map, take}
use Rattle.intaglio_columns.proofs.Names.{cases_eq, cases_lt, get_or-set_at, common_steps, Contains-append_left, Contains-push, Contains-push_cases, position_in, AreMarked, slice_get-get_or}
use Rattle.intaglio_columns.proofs.matching.mark_all.Goals as goal
use Rattle.intaglio_columns.proofs.matching.mark_all.Goals.{in-Some, in_default}

-- the same symbol was found
same-symbol : (a b : ℕ) → Some a ≡ Some b → a ≡ b
same-symbol a b e = cc

module _ {n : ℕ} {strings : List (List ℕ)} {IsWhole : Type 0} where
  module _ {words : List (List ℕ)} {marks : List Bool} (w : List ℕ)
      (before : AreMarked n strings IsWhole words marks) where
    kept : (symbol : ℕ) → get_or marks symbol false ≡ true → (word : List ℕ) × Contains (words ++ w ∷ []) word
        × (slice_get strings symbol ≡ Some word)
    kept symbol e = let it = before.sound symbol e in
        (it.0, Contains-append_left words (w ∷ []) it.0 it.1, it.2)

    -- a word that isn't found, or whose symbol has no place
    marked-absent : (found : Option ℕ) → (IsWhole → found ≡ position_in strings w) →
        ((symbol : ℕ) → found ≡ Some symbol → n ≤ symbol)
        → AreMarked n strings IsWhole (words ++ w ∷ []) marks
    marked-absent found is large = record {
      long = before.long;
      sound = kept;
      whole = λ holds symbol word among at small. elim (Contains-push_cases words w word among) [
        | inl earlier ↦ before.whole holds symbol word earlier at small
        | inr same ↦
            absurd (omega (arith, small, large symbol (is holds ∙ ap (position_in strings) same ∙ at)))
      ];
    }

    -- a word that is found
    marked-found : (s : ℕ) → s < n → slice_get strings s ≡ Some w →
        (IsWhole → Some s ≡ position_in strings w)
        → AreMarked n strings IsWhole (words ++ w ∷ []) (set marks s true)
    marked-found s small at is =
        let there : s < length marks = omega (arith, small, before.long) in
        let other : (symbol : ℕ) → (symbol ≡ s → ⊥) →
        get_or (set marks s true) symbol false ≡ get_or marks symbol false =
        λ symbol ne. get_or-set_other marks s symbol true false ne in
        record {
          long = length-set marks s true ∙ before.long;
          sound = λ symbol e. elim (cases_eq symbol s) [
            | inl same ↦ (w, Contains-push words w, ap (slice_get strings) same ∙ at)
            | inr ne ↦ kept symbol (sym (other symbol ne) ∙ e)
          ];
          whole = λ holds symbol word among position below. elim (cases_eq symbol s) [
            | inl same ↦ get_or-set_at marks s symbol true false same there
            | inr ne ↦ other symbol ne ∙ elim (Contains-push_cases words w word among) [
              | inl earlier ↦ before.whole holds symbol word earlier position below
              | inr same ↦
                  absurd (ne
                  (sym (same-symbol s symbol (is holds ∙ ap (position_in strings) same ∙ position))))
            ]
          ];
        }

pub loop-string-preserved : goal.loop-string-preserved
loop-string-preserved g c =
    let n = length c.args.marks.now in
    let i = c.loop-string.string-index in
    let none : Bor (List ℕ) = record { ref_ptr = (0, 0); now = [] } in
    let item = get_or c.args.strings.now i none in
    let at : slice_get c.args.strings.now i ≡ Some item =
    slice_get-get_or c.args.strings.now i none c.loop-string-test.true in
    let words = map (λ (s : Bor (List ℕ)). s.now) (take i c.args.strings.now) in
    let word = c.as_bytes.result.now in
    let more : map (λ (s : Bor (List ℕ)). s.now) (take (i + 1) c.args.strings.now) ≡ words ++ word ∷ [] = grind (arith, common_steps) in
    let marks = c.loop-string.marks in
    let before = c.loop-string.invariant in
    elim c.match-found.branch [
      | in-Some w ↦ let s = w.in-Some.symbol in elim (cases_lt w.id.result (length marks)) [
        | inl small ↦ rw (more, w.marks-is, w.mark.ensures.there small, w.id.ensures)
            (marked-found word before s
            (omega (arith, small, before.long, w.id.ensures))
            (rw w.in-Some.is at c.symbol-found.ensures.found)
            (λ holds. sym w.in-Some.is ∙ c.symbol-found.ensures.whole holds))
        | inr large ↦ rw (more, w.marks-is, w.mark.ensures.none large)
            (marked-absent word before (Some s) (λ holds. sym w.in-Some.is
            ∙ c.symbol-found.ensures.whole holds)
            (λ t e. omega (arith, same-symbol s t e, large, before.long, w.id.ensures)))
      ]
      | in_default w ↦ rw (more, w.marks-is)
          (marked-absent word before c.symbol-found.result
          c.symbol-found.ensures.whole (λ t e. absurd (w.in_default.not-Some t e)))
    ]
