-- No symbol so far is wrong.
use Rattle.std.proofs.Common.{◌≡◌, ◌+◌, ◌≤◌, length}
use Rattle.intaglio_decode.proofs.Names.{first_fault, symbol_lines}
use Rattle.intaglio_decode.proofs.parts.check_symbols.Given as goal

abbrev pub invariant-loop-rest : goal.invariant-loop-rest
invariant-loop-rest l = record {
  right : first_fault l.count (l.number + 1) (symbol_lines l.rest)
      ≡ first_fault l.count 1 (symbol_lines l.bytes);
  room : l.number + length l.rest ≤ length l.bytes;
}

abbrev pub decreases-loop-rest : goal.decreases-loop-rest
decreases-loop-rest l = length l.rest
