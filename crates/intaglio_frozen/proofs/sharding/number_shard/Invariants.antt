-- The strings so far have their places.
use Rattle.std.proofs.Common.{◌≡◌, length}
use Rattle.intaglio_frozen.proofs.Numbered.{so_far, HavePlaces}
use Rattle.intaglio_frozen.proofs.sharding.number_shard.Given as goal

abbrev pub invariant-loop-place : goal.invariant-loop-place
invariant-loop-place g l = record {
  next : l.next ≡ length (so_far l._count (g.L.StringList.strings l._list) l.number l.place);
  places : HavePlaces l._count (g.L.StringList.strings l._list) l.shards l.number l.place l.numbers;
  len : length l.numbers ≡ length l.initial.numbers;
}
