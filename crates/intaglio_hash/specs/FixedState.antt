-- What a contract says of the hashes of a `FixedState`.
use Rattle.std.specs.Prelude.{◌≡◌, ℕ, List}
use Rattle.std.specs.List.{fold}
use Rattle.std.specs.Hash.BuildHasherDefault.{initial_hasher}
use Rattle.std.specs.Hash.FoldHasher.{initial, write, finish}
use Rattle.std.specs.declared.hash.BuildHasher as builder
use Rattle.std.specs.declared.hash.Hasher as hasher
use Rattle.std.specs.declared.hash.BuildHasherDefault.{BuildHasherDefault}
use Rattle.std.specs.declared.hash.FoldHasher.{FoldHasher}
use Rattle.intaglio_hash.specs.declared.fixed_state.FixedState.{FixedState}
use Rattle.intaglio_hash.specs.contracts.fixed_state.FixedStateBuildHasher.TheImpl.{ghosts as fixed_builder}
use Rattle.intaglio_hash.specs.contracts.fixed_hasher.FixedHasherHasher.TheImpl.{ghosts as fixed_hasher}

-- the hash of a list of writes, from what a builder and its hashers do
abbrev pub hash_of_writes : {S H : Type 0} → builder.Ghosts S H → hasher.Ghosts H → S → List (List ℕ) → ℕ
hash_of_writes b h s writes = h.finish (fold h.write (b.build_hasher s) writes)

-- for the same writes, our builder and std's have the same hash
abbrev pub HasStdHashes : FixedState → BuildHasherDefault FoldHasher → Type 0
HasStdHashes s std = (writes : List (List ℕ))
    → hash_of_writes fixed_builder fixed_hasher s writes ≡ finish (fold write (initial_hasher std) writes)
