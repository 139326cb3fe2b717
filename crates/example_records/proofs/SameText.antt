-- What the symbols of one table in another say of the texts.
use Rattle.std.proofs.Common.{◌≡◌, refl, ℕ, List, [], ◌∷◌, map, Option, Some, None, option_map, unwrap_or, slice_index_or}
use Rattle.std.specs.Prelude.{slice_get, ◌↔◌, MatchOption}
use Rattle.std.proofs.lemmas.Option.{slice_get-map, unwrap_or-slice_get}
use Rattle.intaglio.specs.Keys.{str_key}
use Rattle.intaglio.specs.State.{State, IsValid, first, spelling_at}
use Rattle.intaglio.specs.StrContent.{str_content_bytes}
use Rattle.intaglio.specs.Types.{StrContent}
use Rattle.intaglio.proofs.CallerLaws.{found_stored, stored_found}
use Rattle.example_records.specs.Texts.{HaveSameText, found_in}

module _ (s : State StrContent) (text : List ℕ) (i : ℕ) where
  stored-text : IsValid str_key s → (o : Option StrContent) → slice_get s.contents i ≡ o →
      option_map str_content_bytes o ≡ Some text → first str_key s.contents (text ∷ []) ≡ Some i
  stored-text valid None stands e = cc
  stored-text valid (Some c) stands e =
      stored_found str_key s (text ∷ []) i valid
      (record {
        content = c;
        stands = stands;
        same_key = let f : str_content_bytes c ≡ text = cc in
            rw f refl;
      })

  found-text : first str_key s.contents (text ∷ []) ≡ Some i → spelling_at str_content_bytes s i ≡ Some text
  found-text e = let h = found_stored str_key s (text ∷ []) i e in
      let k : str_content_bytes h.content ∷ [] ≡ text ∷ [] = h.same_key in rw h.stands cc

module _ (left right : State StrContent) (one other : ℕ) (valid : IsValid str_key right) where
  by-text : (o : Option (List ℕ)) →
      (unwrap_or (option_map (λ (text : List ℕ). first str_key right.contents (text ∷ [])) o) None
      ≡ Some other) ↔ MatchOption o ⊥ (λ text. spelling_at str_content_bytes right other ≡ Some text)
  by-text None = (λ e. cc, λ h. absurd h)
  by-text (Some text) =
      (found-text right text other, stored-text right text other valid (slice_get right.contents other) refl)

  -- two symbols have the same text exactly if the list has the one at the other
  pub same-text : (symbols : List (Option ℕ)) (found : Option ℕ) → symbols ≡ found_in left right →
      found ≡ slice_index_or symbols one None → (found ≡ Some other) ↔ HaveSameText left one right other
  same-text symbols found e f =
      rw (
        f,
        e,
        ← (unwrap_or-slice_get (found_in left right) one None),
        slice_get-map (λ (text : List ℕ). first str_key right.contents (text ∷ []))
            (map str_content_bytes left.contents) one,
        slice_get-map str_content_bytes left.contents one,
      )
      (by-text (spelling_at str_content_bytes left one))
