-- The strings so far that belong to the shard.
use Rattle.std.proofs.Common.{◌≡◌, map, take}
use Rattle.intaglio_frozen.proofs.Names.{shard}
use Rattle.intaglio_frozen.proofs.sharding.strings_of.Given as goal

abbrev pub invariant-loop-i : goal.invariant-loop-i
invariant-loop-i g l =
    map (λ w. w.now) l.strings.items ≡ shard l.count (take l.i (g.L.StringList.strings l.list)) l.number
