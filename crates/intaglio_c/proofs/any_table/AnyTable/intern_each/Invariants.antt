-- The strings so far are interned, and the hashes that are left are those of the strings that come next.
use Rattle.intaglio_c.proofs.Names.{◌≡◌, length, take, drop, AreFirst, IsHash, seen}
use Rattle.intaglio_c.proofs.Batches.{Begins}
use Rattle.intaglio_c.proofs.any_table.AnyTable.intern_each.Given as goal

abbrev pub invariant-loop-i : goal.invariant-loop-i
invariant-loop-i g l = record {
  places : length l.symbols ≡ length (g.L.StringList.strings l.list);
  room : length l.hashes ≡ 64;
  ahead : AreFirst (IsHash (seen l.self).kind (seen l.self).hasher) (drop l.i (g.L.StringList.strings l.list))
      (drop l.used l.hashes);
  begins : Begins (seen l.initial.self) (g.L.StringList.strings l.list) (seen l.self) l.i
      (take l.i l.symbols);
}
