-- The strings so far are UTF-8.
use Rattle.intaglio_frozen.proofs.Names.{AreTextsBefore}
use Rattle.intaglio_frozen.proofs.list.first_not_utf8.Given as goal

abbrev pub invariant-loop-i : goal.invariant-loop-i
invariant-loop-i g l = AreTextsBefore l.i (g.L.StringList.strings l.list)
