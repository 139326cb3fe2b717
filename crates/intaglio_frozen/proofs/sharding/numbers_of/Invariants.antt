-- The strings of the shards so far have their places.
use Rattle.std.proofs.Common.{◌≡◌, length}
use Rattle.intaglio_frozen.proofs.Names.{AreNumbered, first_shards, joined}
use Rattle.intaglio_frozen.proofs.sharding.numbers_of.Given as goal

abbrev pub invariant-loop-number : goal.invariant-loop-number
invariant-loop-number g l = record {
  next : l.next ≡ length (joined (first_shards l.count (g.L.StringList.strings l.list) l.number));
  numbered : AreNumbered (g.L.StringList.strings l.list) l.shards
      (joined (first_shards l.count (g.L.StringList.strings l.list) l.number)) l.number l.numbers.items;
  len : length l.numbers.items ≡ length l.shards;
}
