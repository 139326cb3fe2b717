-- The bytes so far are written.
use Rattle.std.proofs.Common.{◌≤◌, length, take}
use Rattle.intaglio_lines.proofs.Names.{Appends}
use Rattle.intaglio_lines.proofs.write.write_bytes.Given as goal

abbrev pub invariant-loop : goal.invariant-loop
invariant-loop g l = record {
  within : l.at ≤ length l.bytes;
  written : Appends (g.W.Write.contents l.initial.writer) (g.W.Write.contents l.writer) (take l.at l.bytes);
}
