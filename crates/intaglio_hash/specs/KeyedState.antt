-- What a contract sees of a `KeyedState`.
use Rattle.std.specs.Prelude.{ℕ}
use Rattle.std.specs.Hash.{u64}
use Rattle.std.specs.Hash.DefaultHasher.{with_keys, write, finish}
use Rattle.std.specs.List.{fold}
use Rattle.std.specs.RandomState.{initial_hasher as random_hasher}
use Rattle.std.specs.declared.hash.DefaultHasher.{DefaultHasher}
use Rattle.std.specs.declared.hash.RandomState.{RandomState}
use Rattle.intaglio_hash.specs.declared.state.KeyedState.{KeyedState}

-- the hasher that it builds, from its keys
abbrev pub initial_hasher : KeyedState → DefaultHasher
initial_hasher s = with_keys s.key0 s.key1

-- the hash of the number n by a `RandomState`
abbrev pub random_key : RandomState → ℕ → ℕ
random_key r n = finish (fold write (random_hasher r) (u64 n))
