-- One key more: it is a repeat, or the table holds it too.
use Rattle.std.proofs.Common.{◌≡◌, ◌≢◌, ◌∙◌, ap, refl, sym, arith, ℕ, ◌+◌, ◌<◌, List, [], ◌∷◌, length, map, take, Ok}
use Rattle.std.specs.Prelude.{slice_index_or}
use Rattle.std.proofs.lemmas.List.{length-map, length-take-le, take_more}
use Rattle.intaglio.specs.Change.{InternsForm}
use Rattle.intaglio.specs.Keys.{str_key}
use Rattle.intaglio.specs.State.{State, IsValid}
use Rattle.intaglio.specs.StrContent.{str_content_bytes}
use Rattle.intaglio.specs.Types.{StrContent}
use Rattle.intaglio.proofs.CallerLaws.{counted_spelled, spellings_differ}
use Rattle.example_records.specs.Repeat.{RepeatsAt, AreDistinct}

-- the texts of a table are distinct
pub texts-distinct : (s : State StrContent) (texts : List (List ℕ)) → IsValid str_key s →
    map str_content_bytes s.contents ≡ texts → AreDistinct texts
texts-distinct s texts valid held =
    rw held at (spellings_differ str_key str_content_bytes (λ c. refl) s valid)

module _ (old new : State StrContent) (texts : List (List ℕ)) (n i : ℕ) (w : List ℕ)
    (within : n < length texts) (here : slice_index_or texts n [] ≡ w)
    (held : map str_content_bytes old.contents ≡ take n texts)
    (step : InternsForm str_key str_content_bytes old (w ∷ []) w (Ok i) new) where
  -- the table holds as many contents as keys were read
  count : length old.contents ≡ n
  count = sym (length-map old.contents str_content_bytes) ∙ ap (λ (ws : List (List ℕ)). length ws) held
      ∙ length-take-le n texts (omega arith)

  -- if it holds no more after the next key, this key is a repeat
  pub repeats : IsValid str_key old → length new.contents ≡ length old.contents →
      RepeatsAt texts (length old.contents)
  repeats valid same =
      rw count (record {
        within = within;
        distinct = texts-distinct old (take n texts) valid held;
        repeated =
            rw (
              here,
              ← held,
            ) (((counted_spelled str_key str_content_bytes (λ c. refl) old new w i step).0 same).0);
      })

  -- otherwise it holds this key too
  pub held-too : length new.contents ≢ length old.contents →
      map str_content_bytes new.contents ≡ take (n + 1) texts
  held-too other = rw (
    (counted_spelled str_key str_content_bytes (λ c. refl) old new w i step).1 other,
    held,
    ← here,
  ) (sym (take_more texts n [] within))
