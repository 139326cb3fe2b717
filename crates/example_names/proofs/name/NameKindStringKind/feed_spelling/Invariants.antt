use Rattle.std.proofs.Common.{◌≡◌, fold, length}
use Rattle.intaglio_content.specs.Key.{feed}
use Rattle.example_names.specs.Letters.{letters}
use Rattle.example_names.proofs.name.NameKindStringKind.feed_spelling.Given as goal

-- what is still to be written is what the letters that are left feed
abbrev pub invariant-loop-rest : goal.invariant-loop-rest
invariant-loop-rest g l = fold g.H.Hasher.write l.hasher (feed (letters l.rest))
    ≡ fold g.H.Hasher.write l.fn.hasher (feed (letters l.spelling))

abbrev pub decreases-loop-rest : goal.decreases-loop-rest
decreases-loop-rest g l = length l.rest
