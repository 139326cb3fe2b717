-- The strings so far are stored, each at its position, so they are distinct.
use Rattle.std.proofs.Common.{◌≡◌, map, take}
use Rattle.intaglio_frozen.proofs.Names.{AreDistinct, packed_key}
use Rattle.intaglio_frozen.proofs.equal.equal_strings.Given as goal

abbrev pub invariant-loop-i : goal.invariant-loop-i
invariant-loop-i g l = record {
  contents : l.table.state.contents ≡ take l.i (g.L.StringList.strings l.list);
  distinct : AreDistinct (map packed_key l.table.state.contents);
}
