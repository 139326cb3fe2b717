-- std's definition mixes the keys with the same constants, so both sides are equal once it is unfolded.
use Rattle.std.proofs.Common.{refl}
use Rattle.std.specs.Hash.DefaultHasher.{with_keys}
use Rattle.intaglio_hash.proofs.hasher.KeyedHasher.with_keys.Goals as goal

pub returns : goal.returns
unfolding with_keys
returns c = refl
