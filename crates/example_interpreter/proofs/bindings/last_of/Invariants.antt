-- The symbol isn't at `end`, nor behind it.
use Rattle.std.proofs.Common.{◌≢◌, ◌≤◌, ℕ, Some, length}
use Rattle.std.specs.Prelude.{slice_get}
use Rattle.example_interpreter.proofs.bindings.last_of.Given as goal

abbrev pub invariant-loop-end : goal.invariant-loop-end
invariant-loop-end l = record {
  within : l.end ≤ length l.symbols;
  absent : (j : ℕ) → l.end ≤ j → slice_get l.symbols j ≢ Some l.wanted;
}

abbrev pub decreases-loop-end : goal.decreases-loop-end
decreases-loop-end l = l.end
