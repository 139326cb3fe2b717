-- What an interning says of the counts at symbols.
use Rattle.std.proofs.Common.{◌≡◌, ◌≢◌, ◌∙◌, refl, arith, ℕ, ◌+◌, ◌<◌, ◌≤◌, List, [], ◌∷◌, length, length-append, Option, Some, None, MatchOption, Result, Ok, slice_index_or}
use Rattle.intaglio.specs.Change.{IsCopyAppended}
use Rattle.intaglio.specs.Keys.{str_key}
use Rattle.intaglio.specs.Lookup.{IsFound, FindsOthers}
use Rattle.intaglio.specs.State.{State, first}
use Rattle.intaglio.specs.StrContent.{str_content_bytes}
use Rattle.intaglio.specs.Types.{StrContent, InternError}
use Rattle.intaglio.proofs.CallerLaws.{found_below, same_symbol}
use Rattle.example_records.specs.Counts.{KeepsOthers, count_at, count_in}

-- a word with a symbol past those before wasn't there, and has the next one
pub new-word : (old new : State StrContent) (w : List ℕ) (i : ℕ) (o : Option ℕ) →
    first str_key old.contents (w ∷ []) ≡ o →
    MatchOption o (IsCopyAppended str_key str_content_bytes old (w ∷ []) w i new)
    (λ j. (◌≡◌ {A = Result ℕ InternError} (Ok i) (Ok j)) × (new ≡ old))
    → length old.contents ≤ i → (o ≡ None) × (i ≡ length old.contents)
    × (length new.contents ≡ length old.contents + 1)
new-word old new w i None e h le =
    (refl, h.position, rw h.contents.added (length-append old.contents (h.contents.copy ∷ [])))
new-word old new w i (Some j) e h le =
    absurd (let lt = found_below str_key old (w ∷ []) j e in let same : i ≡ j = cc in omega arith)

module _ (old new : State StrContent) (counts after : List ℕ) (w : List ℕ) (i : ℕ)
    (found : IsFound str_key new (w ∷ []) i) (others : FindsOthers str_key old (w ∷ []) new) (same : (k : ℕ) →
    k ≢ i → k < length old.contents → slice_index_or after k 0 ≡ slice_index_or counts k 0) where
  at-other : (v : List ℕ) → v ≢ w → (o : Option ℕ) → first str_key old.contents (v ∷ []) ≡ o →
      count_at after o ≡ count_at counts o
  at-other v differs None e = refl
  at-other v differs (Some k) e =
      let law = same_symbol str_key new (v ∷ []) (w ∷ []) k i (others (v ∷ []) (λ f. differs cc) ∙ e) found in
      same k (λ f. let g : v ∷ [] ≡ w ∷ [] = law.1 f in differs cc) (found_below str_key old (v ∷ []) k e)

  -- the counts of other words are kept if those at other symbols are
  pub others-kept : KeepsOthers (count_in old.contents counts) w (count_in new.contents after)
  others-kept v differs =
      rw (others (v ∷ []) (λ f. differs cc)) (at-other v differs (first str_key old.contents (v ∷ [])) refl)
