-- Each step needs the number of placed hashes, which the step before returned.
use Rattle.std.proofs.Common.{◌≡◌, length}
use Rattle.tests.proofs.tests.units.buckets.plays.Given as goal

abbrev pub invariant-loop-step : goal.invariant-loop-step
invariant-loop-step g l = length l.index.hashes ≡ l.count
