-- No slot so far was of a record with the hash, so the same numbers are left. Each slot lowers `most_left`.
use Rattle.std.proofs.Common.{◌≤◌}
use Rattle.intaglio_records.specs.Matches.{IsSearch, LeavesAll, most_left}
use Rattle.intaglio_records.proofs.matches.Matches.next.Given as goal

abbrev pub invariant-loop-slot : goal.invariant-loop-slot
invariant-loop-slot l = record {
  search : IsSearch l.self;
  left : LeavesAll l.fn.self l.self;
  fewer : most_left l.self ≤ most_left l.fn.self;
}

abbrev pub decreases-loop-slot : goal.decreases-loop-slot
decreases-loop-slot l = most_left l.self
