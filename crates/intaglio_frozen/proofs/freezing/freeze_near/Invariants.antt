-- No pair of keys so far has places for all groups, and if one was tried, no two strings are equal.
use Rattle.std.proofs.Common.{ℕ, ◌<◌}
use Rattle.intaglio_frozen.proofs.Names.{HasNoEqual, LacksPlaces}
use Rattle.intaglio_frozen.proofs.freezing.freeze_near.Given as goal

abbrev pub invariant-loop-attempt : goal.invariant-loop-attempt
invariant-loop-attempt g l = record {
  lack : (n : ℕ) → n < l.attempt → LacksPlaces (g.L.StringList.strings l.list) l.key0 l.key1 n;
  distinct : 0 < l.attempt → HasNoEqual (g.L.StringList.strings l.list);
}
