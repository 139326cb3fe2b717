-- The first symbols are left, and not fewer than `count`.
use Rattle.std.proofs.Common.{◌≡◌, ◌≤◌, length, take}
use Rattle.intaglio_index.proofs.index.Index.cut.Given as goal

abbrev pub invariant-loop-self : goal.invariant-loop-self
invariant-loop-self l = record {
  hashes : l.self.hashes ≡ take (length l.self.hashes) l.fn.self.hashes;
  enough : l.count ≤ length l.self.hashes;
  count : l.self.count ≡ l.fn.self.count;
  room : l.self.room ≡ l.fn.self.room;
}

abbrev pub decreases-loop-self : goal.decreases-loop-self
decreases-loop-self l = length l.self.hashes
