-- Whether the ends that are left are in order behind the last one is whether all are.
use Rattle.intaglio_c.proofs.Names.{◌≡◌, drop, are_ends}
use Rattle.intaglio_c.proofs.batch.are_ends.Given as goal

abbrev pub invariant-loop-end : goal.invariant-loop-end
invariant-loop-end l = are_ends l.size l.start (drop l.end-index l.ends) ≡ are_ends l.size 0 l.ends
