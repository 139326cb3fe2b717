-- What was found of the strings so far.
use Rattle.std.proofs.Common.{◌≡◌, ◌≤◌, length, map, take, vec_len, vec_capacity}
use Rattle.intaglio_frozen.proofs.Names.{first, string_key, joined}
use Rattle.intaglio_frozen.proofs.shards.Shards.check_all.Given as goal

abbrev pub invariant-loop-i : goal.invariant-loop-i
invariant-loop-i l = record {
  found : l.found.items ≡ map (λ w. first string_key (joined l.self) (string_key w.now)) (take l.i l.strings);
  len : vec_len l.found ≡ l.i;
  room : length l.strings ≤ vec_capacity l.found;
}
