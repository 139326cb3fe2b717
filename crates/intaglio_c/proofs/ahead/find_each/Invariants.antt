-- Each string so far has its number, and the hashes that are left are those of the strings that come next.
use Rattle.intaglio_c.proofs.Names.{◌≡◌, length, take, drop, AreFirst, Continues}
use Rattle.intaglio_c.proofs.ahead.find_each.Given as goal

abbrev pub invariant-loop-i : goal.invariant-loop-i
invariant-loop-i g l = record {
  places : length l.symbols ≡ length (g.L.StringList.strings l.list);
  room : length l.hashes ≡ 64;
  ahead : AreFirst (g.T.HashesAhead.is_hash l.table) (drop l.i (g.L.StringList.strings l.list))
      (drop l.used l.hashes);
  written : Continues (g.T.LookUps.may_be l.table) (g.L.StringList.strings l.list)
      (drop l.i (g.L.StringList.strings l.list)) (take l.i l.symbols);
}
