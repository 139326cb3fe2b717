-- Links between symbols, and the list that they form.
use Rattle.std.specs.Prelude.{◌≡◌, ℕ, ◌<◌, ◌≤◌, ◌^◌, ◌==◌, cond, List, [], ◌∷◌, length, Option, Some, None, slice_index_or}
use Rattle.std.specs.List.{AllByRecursion}
use Rattle.intaglio_symbol.specs.declared.symbol.Symbol.{Symbol}
use Rattle.intaglio_index.specs.Placed.{chain_from, symbols_of, first_symbol_of}

-- following `next` from `start` visits exactly these symbols, and then ends
abbrev pub IsPath : (ℕ → Option Symbol) → Option Symbol → List ℕ → Type 0
IsPath next start [] = start ≡ None
IsPath next start (s ∷ path) = (start ≡ Some s) × IsPath next (next s) path

-- where a symbol's link leads; one to the symbol itself leads nowhere
abbrev pub target_of : ℕ → Symbol → Option Symbol
target_of s link = cond (link == s) None (Some link)

-- the next symbol after one in its bucket
abbrev pub next_of : List Symbol → ℕ → Option Symbol
next_of links s = target_of s (slice_index_or links s 0)

-- a symbol with its hash
abbrev pub entry_of : List ℕ → Symbol → ℕ × ℕ
entry_of hashes s = (s, slice_index_or hashes s 0)

-- the links from `start` form this list of symbols with their hashes
pub record IsThread (hashes : List ℕ) (links : List Symbol) (start : Option Symbol)
    (entries : List (ℕ × ℕ)) : Type 0 where
  pub path : IsPath (next_of links) start (symbols_of entries)
  pub read : AllByRecursion (λ (e : ℕ × ℕ). (e.0 < length hashes) × (slice_index_or hashes e.0 0 ≡ e.1))
      entries
  pub paired : length links ≡ length hashes

pub record IsLinked (count : ℕ) (hashes : List ℕ) (links : List Symbol) : Type 0 where
  -- the links of each bucket form its chain
  pub paths : (b : ℕ) →
      IsPath (next_of links) (first_symbol_of (chain_from count b 0 [] hashes))
      (symbols_of (chain_from count b 0 [] hashes))
  -- each hash has a link
  pub paired : length links ≡ length hashes
  -- there are at least as many buckets as hashes
  pub few : length hashes ≤ count
  -- each hash has a symbol
  pub numbered : length hashes ≤ 2 ^ 32
