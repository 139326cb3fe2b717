-- The texts of tokens after one more was interned.
use Rattle.std.proofs.lemmas.Grind.{common_steps}
use Rattle.std.proofs.Common.{◌≡◌, ap, refl, arith, ℕ, ◌<◌, suc, List, [], ◌∷◌, ◌++◌, length, get_or, Option}
use Rattle.std.specs.Prelude.{unwrap_or, All, ◌↔◌}
use Rattle.std.proofs.lemmas.Grind.{flat_map-append}
use Rattle.std.proofs.lemmas.List.{append-nil, append_assoc}
use Rattle.std.proofs.lemmas.List.Elements.{All-push}
use Rattle.std.proofs.lemmas.Option.{slice_get_within}
use Rattle.intaglio.specs.BytesContent.{bytes_content_bytes}
use Rattle.intaglio.specs.Keys.{bytes_key}
use Rattle.intaglio.specs.Lookup.{IsFound, IsStored, Keeps}
use Rattle.intaglio.specs.State.{State, IsValid}
use Rattle.intaglio.specs.Types.{BytesContent}
use Rattle.intaglio.proofs.CallerLaws.{same_symbol, has_content, keeps_below, keeps_text, spelled_at}
use Rattle.example_interpreter.specs.Spelled.{text_of, spelled}
use Rattle.example_interpreter.specs.declared.token.Token.{Token}

-- what is stored with a key of one text has this text
pub stored-text : (s : State BytesContent) (text : List ℕ) (i : ℕ) → IsStored bytes_key s (text ∷ []) i →
    text_of s.contents i ≡ text
stored-text s text i is = grind (arith, common_steps)

-- and it was issued
pub stored-within : (s : State BytesContent) (text : List ℕ) (i : ℕ) → IsStored bytes_key s (text ∷ []) i →
    i < length s.contents
stored-within s text i is = slice_get_within s.contents i is.content is.stands

module _ (old new : State BytesContent) (kept : Keeps bytes_key old new) where
  text-kept : (i : ℕ) → i < length old.contents → text_of new.contents i ≡ text_of old.contents i
  text-kept i h =
      ap (λ (o : Option (List ℕ)). unwrap_or o []) (keeps_text bytes_key bytes_content_bytes old new i kept h)

  -- tokens keep their texts
  spelled-kept : (tokens : List Token) → All (λ token. token.text < length old.contents) tokens →
      spelled new.contents tokens ≡ spelled old.contents tokens
  spelled-kept [] h = refl
  spelled-kept (t ∷ ts) h =
      rw (text-kept t.text (h 0 t (omega arith)), spelled-kept ts (λ i d lt. h (suc i) d (omega arith))) refl

  within-each : (tokens : List Token) → All (λ token. token.text < length old.contents) tokens →
      All (λ token. token.text < length new.contents) tokens
  within-each tokens h = λ i d lt. keeps_below bytes_key old new (get_or tokens i d).text kept (h i d lt)

  -- and with one more token, whose text is the front of what is left, they and the rest spell the source
  pub spelled-push : (tokens after : List Token) (token : Token) (lexeme back rest source : List ℕ) →
      All (λ t. t.text < length old.contents) tokens → after ≡ tokens ++ token ∷ [] →
      text_of new.contents token.text ≡ lexeme → lexeme ++ back ≡ rest
      → spelled old.contents tokens ++ rest ≡ source → spelled new.contents after ++ back ≡ source
  spelled-push tokens after token lexeme back rest source issued added text cut whole =
      let f : Token → List ℕ = (λ t. text_of new.contents t.text) in
      let all : spelled new.contents after ≡ spelled old.contents tokens ++ lexeme =
      rw (
        added,
        flat_map-append f tokens (token ∷ []),
        spelled-kept tokens issued,
        append-nil (text_of new.contents token.text),
        text,
      ) refl in
      rw (all, append_assoc (spelled old.contents tokens) lexeme back, cut) whole

  -- with one more token, each still has a symbol of the table
  pub issued-push : (tokens after : List Token) (token : Token) →
      All (λ t. t.text < length old.contents) tokens → after ≡ tokens ++ token ∷ [] →
      token.text < length new.contents → All (λ t. t.text < length new.contents) after
  issued-push tokens after token issued added within =
      rw added (All-push (λ (t : Token). t.text < length new.contents) tokens token
      (within-each tokens issued) within)

-- symbols of the table have the same text exactly if they are the same
pub same-text : (s : State BytesContent) (i j : ℕ) → IsValid bytes_key s → i < length s.contents →
    j < length s.contents → (text_of s.contents i ≡ text_of s.contents j) ↔ (i ≡ j)
same-text s i j valid h k =
    let found : (n : ℕ) → n < length s.contents → IsFound bytes_key s (text_of s.contents n ∷ []) n =
    (λ n below. (spelled_at bytes_key bytes_content_bytes (λ c. refl) s (text_of s.contents n) n valid).0
    (rw (has_content bytes_key s n below).1 refl)) in (
      λ e. (same_symbol bytes_key s _ _ i j (found i h) (found j k)).0 (ap (λ (t : List ℕ). t ∷ []) e),
      λ e. ap (λ (n : ℕ). text_of s.contents n) e,
    )
