-- How often each string occurs in the codes so far.
use Rattle.std.proofs.Common.{◌≡◌, ◌≢◌, ◌∙◌, ℕ, ◌+◌, ◌<◌, ◌≤◌, ◌==◌, inl, inr, List, length, get_or, set, take, slice_get, Some, sym, ap, arith, eq-eqb, length-set, get_or-set_other}
use Rattle.intaglio_columns.proofs.Names.{sum, cases_eq, ne_eqb, get_or-set_at, slice_get_within, get_or_from_slice_get, missing, AreCodes, count_of}
use Rattle.std.proofs.lemmas.List.Sums.{count_by_more_yes, count_by_more_no, sum_by-set}

-- of the first i codes, the counts of the n strings and of the missing code. They add up if all are codes
pub record IsTally (n : ℕ) (cs : List ℕ) (i : ℕ) (counts : List ℕ) (gone : ℕ) : Type 0 where
  pub strings : length counts ≡ n
  pub each : (s : ℕ) → s < n → get_or counts s 0 ≡ count_of s (take i cs)
  pub missing : gone ≡ count_of missing (take i cs)
  pub few : (s : ℕ) → s < n → get_or counts s 0 ≤ i
  pub few_missing : gone ≤ i
  pub all : AreCodes n cs → sum counts + gone ≡ i

module _ {n : ℕ} {cs : List ℕ} {i : ℕ} {counts : List ℕ} {gone c : ℕ} (at : slice_get cs i ≡ Some c)
    (before : IsTally n cs i counts gone) where
  is : get_or cs i 0 ≡ c
  is = get_or_from_slice_get cs i c 0 at

  yes : (s : ℕ) → c ≡ s → count_of s (take (i + 1) cs) ≡ count_of s (take i cs) + 1
  yes s e =
      count_by_more_yes (λ x. x == s) cs i 0 (slice_get_within cs i c at) (eq-eqb (get_or cs i 0) s (is ∙ e))

  no : (s : ℕ) → c ≢ s → count_of s (take (i + 1) cs) ≡ count_of s (take i cs)
  no s e =
      count_by_more_no (λ x. x == s) cs i 0 (slice_get_within cs i c at)
      (ne_eqb (get_or cs i 0) s (λ h. e (sym is ∙ h)))

  -- one more code, which is the missing one
  pub tally-missing : c ≡ missing → n ≤ missing → IsTally n cs (i + 1) counts (gone + 1)
  tally-missing e small = record {
    strings = before.strings;
    each = λ s l. let other : c ≢ s = omega (arith, e, small, l) in before.each s l ∙ sym (no s other);
    missing = ap (λ x. x + 1) before.missing ∙ sym (yes missing e);
    few = λ s l. omega (arith, before.few s l);
    few_missing = omega (arith, before.few_missing);
    all = λ ok. omega (arith, before.all ok);
  }

  -- or that of a string, whose count grows by one
  pub tally-string : c < n → c ≢ missing → IsTally n cs (i + 1) (set counts c (get_or counts c 0 + 1)) gone
  tally-string l ne =
      let below : c < length counts = omega (arith, l, before.strings) in
      let more = get_or counts c 0 + 1 in
      let same : (s : ℕ) → s ≡ c → get_or (set counts c more) s 0 ≡ more =
      λ s e. get_or-set_at counts c s more 0 e below in
      record {
        strings = length-set counts c more ∙ before.strings;
        each = λ s m. elim (cases_eq s c) [
          | inl e ↦ same s e ∙ ap (λ x. get_or counts x 0 + 1) (sym e) ∙ ap (λ x. x + 1) (before.each s m)
              ∙ sym (yes s (sym e))
          | inr other ↦ get_or-set_other counts c s more 0 other ∙ before.each s m
              ∙ sym (no s (λ h. other (sym h)))
        ];
        missing = before.missing ∙ sym (no missing ne);
        few = λ s m. elim (cases_eq s c) [
          | inl e ↦ omega (arith, same s e, before.few c l)
          | inr other ↦ omega (arith, get_or-set_other counts c s more 0 other, before.few s m)
        ];
        few_missing = omega (arith, before.few_missing);
        all = λ ok. omega (arith, before.all ok, sum_by-set (λ x. x) counts c more 0 below);
      }

  -- or past the strings, where it isn't counted
  pub tally-other : n ≤ c → c ≢ missing → IsTally n cs (i + 1) counts gone
  tally-other l ne = record {
    strings = before.strings;
    each = λ s m. let other : c ≢ s = omega (arith, l, m) in before.each s m ∙ sym (no s other);
    missing = before.missing ∙ sym (no missing ne);
    few = λ s m. omega (arith, before.few s m);
    few_missing = omega (arith, before.few_missing);
    all = λ ok. elim (ok i c at) [
      | inl m ↦ absurd (omega (arith, l, m))
      | inr e ↦ absurd (ne e)
    ];
  }
