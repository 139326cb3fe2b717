-- The hashes so far are those of the first strings, and there is room for the others.
use Rattle.std.proofs.Common.{◌≡◌, ◌≤◌, length, map, take, vec_len, vec_capacity}
use Rattle.intaglio_frozen.proofs.Names.{hash_under}
use Rattle.intaglio_frozen.proofs.hashing.hashes.Given as goal

abbrev pub invariant-loop-i : goal.invariant-loop-i
invariant-loop-i g l = record {
  hashes : l.hashes.items ≡ map (hash_under l.key0 l.key1) (take l.i (g.L.StringList.strings l.list));
  count : vec_len l.hashes ≡ l.i;
  room : length (g.L.StringList.strings l.list) ≤ vec_capacity l.hashes;
}
