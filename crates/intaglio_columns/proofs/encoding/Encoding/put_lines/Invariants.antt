-- The codes of the lines so far were put.
use Rattle.std.proofs.Common.{◌-◌, ◌≤◌, drop, length, take}
use Rattle.intaglio_columns.proofs.Names.{lines_of, HasNoEnd, encoded_line, has_code, GoesOn}
use Rattle.intaglio_columns.proofs.encoding.Encoding.put_lines.Given as goal

abbrev pub invariant-loop-at : goal.invariant-loop-at
invariant-loop-at g l = record {
  within : l.at ≤ length l.bytes;
  goes : GoesOn lines_of (has_code (g.D.Dictionary.strings l.self.table.now) l.self.missing)
      (encoded_line (g.D.Dictionary.strings l.self.table.now))
      (g.W.Write.contents l.initial.writer) l.initial.block.items l.bytes l.fn.number
      (g.W.Write.contents l.writer) l.block.items (drop l.at l.bytes) l.count;
  few : l.skip ≤ length (drop l.at l.bytes);
  skip : HasNoEnd (take l.skip (drop l.at l.bytes));
}

abbrev pub decreases-loop-at : goal.decreases-loop-at
decreases-loop-at g l = length l.bytes - l.at
