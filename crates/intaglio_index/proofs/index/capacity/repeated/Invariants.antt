-- There are as many copies as turns, and room for all.
use Rattle.std.proofs.Common.{◌≡◌, ◌≤◌, replicate}
use Rattle.intaglio_index.proofs.index.capacity.repeated.Given as goal

abbrev pub invariant-loop-i : goal.invariant-loop-i
invariant-loop-i g l = record { items : l.list.items ≡ replicate l._i l.value; room : l.count ≤ l.list.cap }
