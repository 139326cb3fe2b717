-- `next` asks for a search and leaves one, also after it returned the last string.
use Rattle.intaglio_records.specs.Matches.{IsSearch}
use Rattle.tests.proofs.tests.units.records.gives.Given as goal

abbrev pub invariant-loop-given : goal.invariant-loop-given
invariant-loop-given g l = IsSearch l.matches
