-- The lines so far are at the front.
use Rattle.std.proofs.Common.{◌≡◌, ◌-◌, ◌≤◌, [], drop, length, map, take, vec_len, vec_capacity}
use Rattle.intaglio_columns.proofs.Names.{lines_of, HasNoEnd, StartsWith}
use Rattle.intaglio_columns.proofs.encoding.first_lines.Given as goal

abbrev pub invariant-loop-skip : goal.invariant-loop-skip
invariant-loop-skip l = record {
  whole : StartsWith lines_of l.bytes (map (λ line. line.now) l.lines.items) (drop l.size l.bytes);
  within : l.size ≤ length l.bytes;
  some : vec_len l.lines ≤ l.size;
  none : l.lines.items ≡ [] → l.size ≡ 0;
  few : vec_len l.lines ≤ 64;
  room : 64 ≤ vec_capacity l.lines;
  short : l.skip ≤ length (drop l.size l.bytes);
  skip : HasNoEnd (take l.skip (drop l.size l.bytes));
}

abbrev pub decreases-loop-skip : goal.decreases-loop-skip
decreases-loop-skip l = 64 - vec_len l.lines
