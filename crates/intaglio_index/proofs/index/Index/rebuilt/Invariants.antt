-- The first `i` symbols are placed in the new buckets, which is one event each.
use Rattle.std.proofs.Common.{◌≡◌, ◌++◌, take, replicate}
use Rattle.intaglio_index.proofs.Names.{placed}
use Rattle.intaglio_index.proofs.index.Index.rebuilt.Given as goal

abbrev pub invariant-loop-i : goal.invariant-loop-i
invariant-loop-i l = record {
  count : l.index.count ≡ l.count;
  hashes : l.index.hashes ≡ take l.i l.self.hashes;
  room : l.index.room ≡ l.count;
  events : l.work.events ≡ l.initial.work.events ++ replicate l.i placed;
}
