-- A line without a bit gives no slot, so the same are left. It leads to an older one, so the loop ends.
use Rattle.std.proofs.Common.{◌≤◌}
use Rattle.intaglio_records.proofs.Names.{IsSearch, LeavesAll}
use Rattle.intaglio_records.specs.Search.{most_left}
use Rattle.intaglio_records.proofs.search.Candidates.next.Given as goal

abbrev pub invariant-loop-self : goal.invariant-loop-self
invariant-loop-self l = record {
  search : IsSearch l.self;
  left : LeavesAll l.fn.self l.self;
  fewer : most_left l.self ≤ most_left l.fn.self;
}

abbrev pub decreases-loop-self : goal.decreases-loop-self
decreases-loop-self l = l.self.next
