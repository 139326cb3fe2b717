-- Each string before the batch is found at its symbol. A batch has at least one string, so the loop ends.
use Rattle.std.proofs.Common.{◌-◌, ◌≤◌, length}
use Rattle.intaglio_frozen.specs.Layout.{strings}
use Rattle.intaglio_frozen.proofs.Names.{AreFoundBelow}
use Rattle.intaglio_frozen.proofs.checking.first_not_found.Given as goal

abbrev pub invariant-loop-start : goal.invariant-loop-start
invariant-loop-start l = record {
  found : AreFoundBelow l.block l.start;
  within : l.start ≤ length (strings l.block);
}

abbrev pub decreases-loop-start : goal.decreases-loop-start
decreases-loop-start l = length (strings l.block) - l.start
