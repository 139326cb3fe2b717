-- What an interning of something new does to the list of contents.
use Rattle.std.specs.Prelude.{◌≡◌, ℕ, List, [], ◌∷◌, ◌++◌, length, map}
use Rattle.intaglio_content.specs.Key.{Key}
use Rattle.intaglio_interner.specs.State.{State}

-- the content is the last one, at the next symbol
abbrev pub Grows : {C : Type 0} → State C → C → ℕ → State C → Type 0
Grows old c symbol new = (symbol ≡ length old.contents) × (new.contents ≡ old.contents ++ c ∷ [])

-- a content with this key and this spelling is the last one, at the next symbol
pub record GrowsByForm {C : Type 0} (key : C → Key) (spelling : C → List ℕ) (old : State C) (k : Key)
    (w : List ℕ) (symbol : ℕ) (new : State C) : Type 0 where
  pub position : symbol ≡ length old.contents
  pub keys : map key new.contents ≡ map key old.contents ++ k ∷ []
  pub spellings : map spelling new.contents ≡ map spelling old.contents ++ w ∷ []
