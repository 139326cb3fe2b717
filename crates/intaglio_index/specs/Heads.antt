-- The heads of buckets. An entry is a symbol with its hash; `size` is the mask of the modulus plus 1.
use Rattle.std.specs.Prelude.{◌≡◌, ◌↔◌, ℕ, ◌/◌, ◌%◌, ◌<◌, List, [], ◌∷◌, length, slice_index_or}
use Rattle.intaglio_index.specs.declared.index.head.Head.{Head}
use Rattle.intaglio_index.specs.Placed.{chain_from}

-- a word has the high bits of an entry's hash, and the entry's symbol in place of the low bits
abbrev pub IsWord : ℕ → ℕ × ℕ → ℕ → Type 0
IsWord size e word = (word / size ≡ e.1 / size) × (word % size ≡ e.0)

-- the second entry, or the first one if there is no second
abbrev pub second_of : ℕ × ℕ → List (ℕ × ℕ) → ℕ × ℕ
second_of e [] = e
second_of e (f ∷ es) = f

-- the words of the first two entries
abbrev pub IsHead : ℕ → Head → List (ℕ × ℕ) → Type 0
IsHead size head [] = Unit {0}
IsHead size head (e ∷ es) = IsWord size e head.first × IsWord size (second_of e es) head.second

pub record IsHeaded (size : ℕ) (heads : List Head) (filters hashes : List ℕ) : Type 0 where
  -- a bucket is empty exactly if its filter is 0
  pub empty_bucket : (b : ℕ) → b < length heads → (slice_index_or filters b 0 ≡ 0) ↔
      (chain_from (length heads) b 0 [] hashes ≡ [])
  -- the head of each other bucket has the words of its first two entries
  pub words : (b : ℕ) → b < length heads →
      IsHead size (slice_index_or heads b (record { first = 0; second = 0 }))
      (chain_from (length heads) b 0 [] hashes)
