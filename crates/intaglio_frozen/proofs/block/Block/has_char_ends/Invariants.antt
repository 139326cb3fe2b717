-- A character of the text ends where each string so far does.
use Rattle.std.proofs.Common.{ℕ, ◌<◌, get_or, IsCharBoundary}
use Rattle.intaglio_frozen.proofs.Names.{ends}
use Rattle.intaglio_frozen.proofs.block.Block.has_char_ends.Given as goal

abbrev pub invariant-loop-i : goal.invariant-loop-i
invariant-loop-i l = (k : ℕ) → k < l.i → IsCharBoundary l.text (get_or (ends l.self) k 0)
