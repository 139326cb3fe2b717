-- The shards so far begin where the others end.
use Rattle.std.proofs.Common.{◌≡◌, ◌≤◌, length, take, vec_len, vec_capacity}
use Rattle.intaglio_frozen.proofs.Names.{missing, joined, starts_from}
use Rattle.intaglio_frozen.proofs.shards.starts_of.Given as goal

abbrev pub invariant-loop-i : goal.invariant-loop-i
invariant-loop-i l = record {
  starts : l.starts.items ≡ starts_from 0 (take l.i l.tables);
  count : l.count ≡ length (joined (take l.i l.tables));
  few : l.count ≤ missing;
  len : vec_len l.starts ≡ l.i;
  room : length l.tables ≤ vec_capacity l.starts;
}
