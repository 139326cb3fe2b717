-- How the room of a list grows.
use Rattle.std.specs.Prelude.{◌≡◌, ◌≢◌, ℕ, ◌*◌, ◌≤◌, max}

-- the room of a list before and after a call that needs this much of it: what is enough stays, and a growth
-- at least doubles it, so that items which are added one by one grow it rarely. It takes no more than that
pub record Doubles (needed old new : ℕ) : Type 0 where
  pub enough : needed ≤ old → new ≡ old
  pub grown : new ≢ old → new ≡ max 4 (max needed (2 * old))

-- the same of the room for bytes, whose least is 8
pub record DoublesBytes (needed old new : ℕ) : Type 0 where
  pub enough : needed ≤ old → new ≡ old
  pub grown : new ≢ old → new ≡ max 8 (max needed (2 * old))
