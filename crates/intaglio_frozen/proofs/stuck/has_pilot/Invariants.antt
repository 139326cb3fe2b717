-- Under each pilot so far some string of the group has no place. No mark but `TAKEN` is above their number.
use Rattle.std.proofs.Common.{◌≡◌, ℕ, ◌<◌, length, get_or}
use Rattle.intaglio_frozen.proofs.Names.{HasNoPlace, AreMarked}
use Rattle.intaglio_frozen.proofs.stuck.has_pilot.Given as goal

abbrev pub invariant-loop-pilot : goal.invariant-loop-pilot
invariant-loop-pilot l = record {
  len : length l.marks ≡ length l.fn.marks;
  marked : AreMarked l.hashes (λ g. get_or l.pilots g 0) l.group l.marks l.pilot;
  none : (q : ℕ) → q < l.pilot → (j : ℕ) × HasNoPlace l.hashes (λ g. get_or l.pilots g 0) l.group q j;
}
