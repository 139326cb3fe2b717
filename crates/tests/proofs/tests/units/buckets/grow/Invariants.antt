-- The next number is the count of placed hashes, and there is room up to `to` by the reservation.
use Rattle.std.proofs.Common.{◌≡◌, ◌≤◌, length}
use Rattle.tests.proofs.tests.units.buckets.grow.Given as goal

abbrev pub invariant-loop-number : goal.invariant-loop-number
invariant-loop-number g l = record {
  placed : length l.index.hashes ≡ l.number;
  room : l.to ≤ l.index.room;
}
