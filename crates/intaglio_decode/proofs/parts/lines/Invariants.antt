-- The lines so far and those of what is left are all lines.
use Rattle.std.proofs.Common.{◌≡◌, ◌++◌, length, map}
use Rattle.intaglio_decode.proofs.Names.{lines_of}
use Rattle.intaglio_decode.proofs.parts.lines.Given as goal

abbrev pub invariant-loop-rest : goal.invariant-loop-rest
invariant-loop-rest l = map (λ line. line.now) l.lines.items ++ lines_of l.rest ≡ lines_of l.bytes

abbrev pub decreases-loop-rest : goal.decreases-loop-rest
decreases-loop-rest l = length l.rest
