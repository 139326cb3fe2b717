-- Taking places doesn't change how many words there are. A turn clears a bit of `left`, so the loop ends.
use Rattle.std.proofs.Common.{◌≡◌, length}
use Rattle.intaglio_frozen.proofs.searching.take_first.Given as goal

abbrev pub invariant-loop-left : goal.invariant-loop-left
invariant-loop-left l = length l.taken ≡ length l.fn.taken

abbrev pub decreases-loop-left : goal.decreases-loop-left
decreases-loop-left l = l.left
