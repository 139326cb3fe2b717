-- Each string from `start` to before `start + k` is found at its symbol.
use Rattle.intaglio_frozen.proofs.Names.{AreFoundFrom}
use Rattle.intaglio_frozen.proofs.checking.first_misplaced.Given as goal

abbrev pub invariant-loop-k : goal.invariant-loop-k
invariant-loop-k l = AreFoundFrom l.block l.start l.k
