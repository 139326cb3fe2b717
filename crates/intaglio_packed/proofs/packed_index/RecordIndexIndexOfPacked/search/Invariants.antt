-- Of the numbers of strings with the hash some are left. The others were compared, with a step for each, and
-- have another key.
use Rattle.std.proofs.Common.{ℕ, List, map}
use Rattle.intaglio_packed.proofs.Names.{strings_of, AreAll, IsLeft, most_left, IsSearching}
use Rattle.intaglio_packed.proofs.packed_index.RecordIndexIndexOfPacked.search.Given as goal

-- the numbers of the strings with the hash, and those that are left
abbrev pub invariant-loop-found : goal.invariant-loop-found
invariant-loop-found g l =
    (numbers : List ℕ) × (left : List ℕ) × AreAll l.list.list l.hash numbers
    × IsLeft l.list.list l.hash l.matches left
    × IsSearching (map g.K.StringKind.key_of (strings_of l.list)) (g.Q.Keyed.key l.sought) 0 numbers left
    l.fn.work.events l.work.events

abbrev pub decreases-loop-found : goal.decreases-loop-found
decreases-loop-found g l = most_left l.matches
