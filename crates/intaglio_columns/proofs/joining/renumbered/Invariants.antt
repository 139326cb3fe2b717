-- The new codes so far.
use Rattle.std.proofs.Common.{◌≡◌, ◌≤◌, length, take, vec_len, vec_capacity}
use Rattle.intaglio_columns.proofs.Names.{renumber}
use Rattle.intaglio_columns.proofs.joining.renumbered.Given as goal

abbrev pub invariant-loop-i : goal.invariant-loop-i
invariant-loop-i l = record {
  new : l.new.items ≡ renumber l.map (take l.i l.codes);
  len : vec_len l.new ≡ l.i;
  room : length l.codes ≤ vec_capacity l.new;
}
