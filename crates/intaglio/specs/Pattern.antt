-- Which positions of a list hold equal contents.
use Rattle.std.specs.Prelude.{◌≡◌, ℕ, ◌<◌, List, length, Option, option_map, slice_get, ◌↔◌}
use Rattle.intaglio_content.specs.Key.{Key}

-- the key at a position
abbrev pub key_at : {C : Type 0} → (C → Key) → List C → ℕ → Option Key
key_at key cs i = option_map key (slice_get cs i)

-- two lists are equally long, and the contents at any two positions are equal in one exactly if they are
-- equal in the other
pub record SamePattern {C D : Type 0} (key : C → Key) (other : D → Key) (cs : List C)
    (ds : List D) : Type 0 where
  pub size : length cs ≡ length ds
  pub same : (i j : ℕ) → i < length cs → j < length cs → (key_at key cs i ≡ key_at key cs j) ↔
      (key_at other ds i ≡ key_at other ds j)
