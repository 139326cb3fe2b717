-- std's definition is the same expression, so both sides are equal once it is unfolded.
use Rattle.std.proofs.Common.{refl}
use Rattle.std.specs.Hash.FoldHasher.{folded_multiply}
use Rattle.intaglio_hash.proofs.fixed_hasher.folded.Goals as goal

pub returns : goal.returns
unfolding folded_multiply
returns c = refl
