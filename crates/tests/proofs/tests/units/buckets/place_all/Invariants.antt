-- `place` takes the number of placed hashes as the next symbol, and returns what it is then.
use Rattle.std.proofs.Common.{◌≡◌, length}
use Rattle.tests.proofs.tests.units.buckets.place_all.Given as goal

abbrev pub invariant-loop-hash : goal.invariant-loop-hash
invariant-loop-hash g l = length l.index.hashes ≡ l.count
