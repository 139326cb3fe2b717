-- Letters as items of a key.
use Rattle.std.proofs.Common.{◌≡◌, ℕ, [], ◌∷◌, List, map, ap, ◌∙◌, sym, refl}
use Rattle.std.specs.List.{concat}

-- the items of single bytes, one behind the other, are the bytes
pub joined-singles : (bytes : List ℕ) → concat (map (λ b. b ∷ []) bytes) ≡ bytes
joined-singles [] = refl
joined-singles (b ∷ bytes) = ap (λ rest. b ∷ rest) (joined-singles bytes)

-- so bytes are the same if the items are
pub same_singles : (left right : List ℕ) → map (λ b. b ∷ []) left ≡ map (λ b. b ∷ []) right → left ≡ right
same_singles left right same = sym (joined-singles left) ∙ (ap concat same ∙ joined-singles right)
