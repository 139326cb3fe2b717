-- The hashes so far are those of the strings from `start` on.
use Rattle.std.proofs.Common.{ℕ, ◌+◌, ◌<◌, get_or}
use Rattle.intaglio_frozen.proofs.Names.{IsHashAt}
use Rattle.intaglio_frozen.proofs.checking.hash_strings.Given as goal

abbrev pub invariant-loop-k : goal.invariant-loop-k
invariant-loop-k l = (j : ℕ) → j < l.k → IsHashAt l.block (l.start + j) (get_or l.hashes j 0)
