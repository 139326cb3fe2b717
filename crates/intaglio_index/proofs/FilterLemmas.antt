-- What filters tell of the hashes that were placed.
use Rattle.intaglio_index.proofs.Names.{common_steps, get_or-set_same, get_or-set_other, get_or_default, length-set, bit_at-zero, recursion_from_All, All-from_recursion, chain_from, IsMarked, IsFiltered}
use Rattle.std.proofs.Common.{◌≡◌, ◌≢◌, ℕ, ◌<◌, ◌/◌, ◌%◌, ◌^◌, List, [], ◌∷◌, ◌++◌, length, get_or, set, take, ◌∙◌, arith, ap}
use Rattle.intaglio_index.proofs.ChainLemmas.{Each-so, Each-append, chain-complete}

-- one hash more, whose bit is set
pub filtered-push : (filters : List ℕ) (count : ℕ) (hashes : List ℕ) (hash mark : ℕ) →
    IsFiltered filters count hashes → hash % count < count → IsMarked mark hash →
    ((other : ℕ) → IsMarked (get_or filters (hash % count) 0) other → IsMarked mark other) →
    IsFiltered (set filters (hash % count) mark) count (hashes ++ hash ∷ [])
filtered-push filters count hashes hash mark filtered within marked kept =
    let b : ℕ = hash % count in
    let l : b < length filters = omega (arith, within, filtered.size) in
    let here : get_or (set filters b mark) b 0 ≡ mark = get_or-set_same filters b mark 0 l in
    let stays : (other : ℕ) → IsMarked (get_or filters (other % count) 0) other →
    IsMarked (get_or (set filters b mark) (other % count) 0) other = grind (arith, common_steps) in
    record {
      size = length-set filters b mark ∙ filtered.size;
      marks = Each-append _ hashes (hash ∷ []) (Each-so _ _ hashes filtered.marks stays)
          (rw here marked, tt);
    }

-- fewer hashes
pub filtered-take : {filters : List ℕ} {count : ℕ} {hashes : List ℕ} (n : ℕ) →
    IsFiltered filters count hashes → IsFiltered filters count (take n hashes)
filtered-take n filtered = grind (arith, common_steps)

-- a filter whose bucket is empty needs no bit
pub filtered-vacated : {filters : List ℕ} {count : ℕ} {hashes : List ℕ} (k : ℕ) →
    IsFiltered filters count hashes → chain_from count k 0 [] hashes ≡ [] →
    IsFiltered (set filters k 0) count hashes
filtered-vacated {filters} {count} {hashes} k filtered none =
    let marked = All-from_recursion _ hashes filtered.marks in
    record {
      size = length-set filters k 0 ∙ filtered.size;
      marks = recursion_from_All _ hashes (λ i d l. (let other : get_or hashes i d % count ≢ k = λ e.
          (let found = rw none at (chain-complete count k hashes i l
          (ap (λ n. n % count) (get_or_default hashes i 0 d l) ∙ e)) in absurd (omega (arith, found.1))) in
          rw (get_or-set_other filters k (get_or hashes i d % count) 0 0 other) (marked i d l)));
    }

-- a filter with a bit is not 0
pub marked-some : (filter hash : ℕ) → IsMarked filter hash → filter ≡ 0 → ⊥
marked-some filter hash m none = omega (arith, bit_at-zero (hash / 2 ^ 61), rw none at m)
