-- The size falls from the number of bytes, so the byte before it is one of them.
use Rattle.std.proofs.Common.{◌≤◌, length}
use Rattle.intaglio_columns.proofs.interning.size_of_lines.Given as goal

abbrev pub invariant-loop-size : goal.invariant-loop-size
invariant-loop-size l = record {
  within : l.size ≤ length l.bytes;
}

abbrev pub decreases-loop-size : goal.decreases-loop-size
decreases-loop-size l = l.size
