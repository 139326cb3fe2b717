-- What the ends of the other strings write.
use Rattle.std.proofs.Common.{◌≡◌, drop}
use Rattle.std.specs.Hash.DefaultHasher.{write}
use Rattle.intaglio_frozen.proofs.Names.{end_bytes}
use Rattle.intaglio_frozen.proofs.strings.write_ends.Given as goal

abbrev pub invariant-loop-i : goal.invariant-loop-i
invariant-loop-i g l =
    let ws = g.L.StringList.strings l.list in
    write l.hasher (end_bytes l.end (drop l.i ws)) ≡ write l.initial.hasher (end_bytes 0 ws)
