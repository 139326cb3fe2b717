-- `next` asks for a search and leaves one, and what may be left falls with each string, so the loop ends.
use Rattle.std.proofs.Common.{ℕ}
use Rattle.intaglio_records.specs.Matches.{IsSearch, most_left}
use Rattle.tests.proofs.tests.units.records.number_of.Given as goal

abbrev pub invariant-loop-found : goal.invariant-loop-found
invariant-loop-found l = IsSearch l.matches

abbrev pub decreases-loop-found : goal.decreases-loop-found
decreases-loop-found l = most_left l.matches
