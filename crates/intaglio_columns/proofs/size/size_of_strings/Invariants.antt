-- The sizes of the strings so far.
use Rattle.std.proofs.Common.{◌≡◌, ◌-◌, ◌^◌, length, take, min}
use Rattle.intaglio_columns.proofs.Names.{longest, total}
use Rattle.intaglio_columns.proofs.size.size_of_strings.Given as goal

abbrev pub invariant-loop-number : goal.invariant-loop-number
invariant-loop-number g l = record {
  count : l.size.count ≡ length (g.D.Dictionary.strings l.table);
  bytes : l.size.bytes ≡ min (total (take l.number (g.D.Dictionary.strings l.table))) (2 ^ 64 - 1);
  longest : l.size.longest ≡ longest (take l.number (g.D.Dictionary.strings l.table));
}
