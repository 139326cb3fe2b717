-- How calls change an `Index`, and what they record.
use Rattle.std.specs.Prelude.{◌≡◌, ◌≤◌, ◌++◌, length, replicate}
use Rattle.intaglio_content.specs.declared.work.Work.{Work}
use Rattle.intaglio_content.specs.Work.{placed}
use Rattle.intaglio_index.specs.Placed.{Placed}

-- placed symbols stay placed, and the room isn't less
pub record KeepsPlaces (old new : Placed) : Type 0 where
  pub hashes : new.hashes ≡ old.hashes
  pub room : old.room ≤ new.room
  pub fits : new.room ≤ new.count

-- the buckets are the same, and nothing was recorded
pub record KeepsBuckets (old new : Placed) (before after : Work) : Type 0 where
  pub count : new.count ≡ old.count
  pub quiet : after.events ≡ before.events

-- each symbol was placed once
abbrev pub PlacesEach : Placed → Work → Work → Type 0
PlacesEach old before after = after.events ≡ before.events ++ replicate (length old.hashes) placed
