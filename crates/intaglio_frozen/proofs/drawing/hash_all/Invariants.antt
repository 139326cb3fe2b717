-- The hasher after the strings so far.
use Rattle.std.proofs.Common.{◌≡◌, take, fold}
use Rattle.intaglio_frozen.proofs.Names.{after_string}
use Rattle.intaglio_frozen.proofs.drawing.hash_all.Given as goal

abbrev pub invariant-loop-i : goal.invariant-loop-i
invariant-loop-i g l =
    l.hasher ≡ fold after_string l.initial.hasher (take l.i (g.L.StringList.strings l.list))
