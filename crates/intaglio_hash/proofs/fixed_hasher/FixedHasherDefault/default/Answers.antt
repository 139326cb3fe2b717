-- The seed is the state of std's `initial`, which is seen once that is unfolded.
use Rattle.std.proofs.Common.{refl}
use Rattle.std.specs.Hash.FoldHasher.{initial}
use Rattle.intaglio_hash.proofs.fixed_hasher.FixedHasherDefault.default.Goals as goal

pub returns : goal.returns
unfolding initial
returns c = refl
