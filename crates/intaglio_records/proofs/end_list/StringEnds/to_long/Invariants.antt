-- The ends so far were copied, and the copy has long ends and as much room as this list.
use Rattle.std.proofs.Common.{◌≡◌, take, true}
use Rattle.intaglio_records.specs.EndList.{largest_end}
use Rattle.intaglio_records.proofs.end_list.StringEnds.to_long.Given as goal

abbrev pub invariant-loop-i : goal.invariant-loop-i
invariant-loop-i l =
    (l.ends.list ≡ take l.i l.self.list)
    × ((l.ends.most ≡ l.self.most) × (l.ends.largest ≡ largest_end true))
