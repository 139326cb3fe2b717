-- What the other strings write.
use Rattle.std.proofs.Common.{◌≡◌, drop}
use Rattle.intaglio_frozen.proofs.Names.{concat}
use Rattle.std.specs.Hash.DefaultHasher.{write}
use Rattle.intaglio_frozen.proofs.strings.write_texts.Given as goal

abbrev pub invariant-loop-place : goal.invariant-loop-place
invariant-loop-place g l = let ws = g.L.StringList.strings l.list in
    write l.hasher (concat (drop l.place ws)) ≡ write l.initial.hasher (concat ws)
