-- What was found so far is what look-ups find, and the hashes not yet used are those of the next strings.
use Rattle.std.proofs.Common.{◌≡◌, ◌≤◌, length, map, take, drop, vec_len, vec_capacity}
use Rattle.intaglio_frozen.proofs.Names.{AreFirst}
use Rattle.intaglio_frozen.specs.LookUp.{find, hash}
use Rattle.intaglio_frozen.proofs.batch.find_all.Given as goal

abbrev pub invariant-loop-place : goal.invariant-loop-place
invariant-loop-place l = record {
  found : l.found.items ≡ map (λ s. find l.block s.now) (take l.place l.strings);
  ahead : AreFirst (λ s n. n ≡ hash l.block s) (drop l.place (map (λ s. s.now) l.strings))
      (drop l.used l.hashes);
  group : length l.hashes ≡ 64;
  count : vec_len l.found ≡ l.place;
  room : length l.strings ≤ vec_capacity l.found;
}
