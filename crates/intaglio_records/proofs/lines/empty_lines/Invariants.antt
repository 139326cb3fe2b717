-- The lines so far are empty, and there is memory for `most` in total.
use Rattle.std.proofs.Common.{◌≡◌}
use Rattle.intaglio_records.proofs.Names.{AreEmpty}
use Rattle.intaglio_records.proofs.lines.empty_lines.Given as goal

abbrev pub invariant-loop-i : goal.invariant-loop-i
invariant-loop-i l = record { lines : AreEmpty l.lines.items l._i; room : l.lines.cap ≡ l.most }
