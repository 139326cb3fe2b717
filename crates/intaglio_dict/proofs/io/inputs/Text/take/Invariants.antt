-- The contract says nothing of the bytes, so only the end is shown: each pass takes one byte from the rest.
use Rattle.std.proofs.Common.{length}
use Rattle.intaglio_dict.proofs.io.inputs.Text.take.Given as goal

abbrev pub invariant-loop-rest : goal.invariant-loop-rest
invariant-loop-rest l = Unit {0}

abbrev pub decreases-loop-rest : goal.decreases-loop-rest
decreases-loop-rest l = length l.rest
