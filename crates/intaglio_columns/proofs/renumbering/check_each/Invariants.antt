-- The maps so far lead from there, and as the first one.
use Rattle.std.proofs.Common.{◌<◌, ℕ}
use Rattle.intaglio_columns.proofs.Agreed.{LeadsRight}
use Rattle.intaglio_columns.proofs.renumbering.check_each.Given as goal

abbrev pub invariant-loop-i : goal.invariant-loop-i
invariant-loop-i l = (i : ℕ) → i < l.i → LeadsRight l.column l.maps i
