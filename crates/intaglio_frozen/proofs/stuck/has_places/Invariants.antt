-- A place with the mark of this pilot is that of a string of the group that was tried so far.
use Rattle.std.proofs.Common.{◌≡◌, ℕ, length}
use Rattle.intaglio_frozen.proofs.Names.{AreMarked}
use Rattle.intaglio_frozen.proofs.Marked.{AreTried}
use Rattle.intaglio_frozen.proofs.stuck.has_places.Given as goal

abbrev pub invariant-loop-member : goal.invariant-loop-member
invariant-loop-member l = record {
  len : length l.marks ≡ length l.fn.marks;
  tried : (pilots : ℕ → ℕ) (g : ℕ) → AreMarked l.hashes pilots g l.fn.marks l.pilot →
      AreTried l.hashes pilots g l.members l.pilot l.marks l.member-index;
}
