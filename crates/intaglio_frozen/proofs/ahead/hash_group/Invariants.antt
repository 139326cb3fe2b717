-- Whatever hashes of the strings that are left come behind those so far, together they are the hashes of the
-- strings from `place` on.
use Rattle.std.proofs.Common.{◌≡◌, length, take, drop}
use Rattle.intaglio_frozen.proofs.HashedAhead.{Continues}
use Rattle.intaglio_frozen.proofs.ahead.hash_group.Given as goal

abbrev pub invariant-loop-i : goal.invariant-loop-i
invariant-loop-i g l = record {
  places : length l.hashes ≡ length l.initial.hashes;
  so_far : Continues (g.T.HashesAhead.is_hash l.table) (drop l.place (g.L.StringList.strings l.list))
      (drop l.i (drop l.place (g.L.StringList.strings l.list))) (take l.i l.hashes);
}
