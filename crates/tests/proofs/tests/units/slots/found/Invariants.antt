-- `next` asks for a search and leaves one. The loop ends by its range, so nothing needs to fall.
use Rattle.intaglio_records.specs.Search.{IsSearch}
use Rattle.tests.proofs.tests.units.slots.found.Given as goal

abbrev pub invariant-loop-i : goal.invariant-loop-i
invariant-loop-i l = IsSearch l.search
