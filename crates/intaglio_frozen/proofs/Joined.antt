-- Maps of shards, as one map.
use Rattle.intaglio_frozen.proofs.Names.{common_steps, slice_get_within, decode, IsMap, ShardMapsJoin, joined, joined_map, sum_of, AreShardMaps}
use Rattle.std.proofs.Common.{◌≡◌, ◌∙◌, ℕ, ◌+◌, ◌<◌, List, [], ◌∷◌, ◌++◌, length, map, append-nil, Some, refl, ap, arith, slice_get}
use Rattle.intaglio_frozen.proofs.Sharded.{at-back, at-front}

-- the numbers of a map, counted on from the end of other strings, lead to the same strings behind these
shifted : (front new rest old : List (List ℕ)) (numbers : List ℕ) → IsMap old new numbers →
    decode (front ++ (new ++ rest)) (map (λ k. length front + k) numbers) ≡ map Some old
shifted front new rest [] [] is = refl
shifted front new rest (w ∷ old) (n ∷ numbers) is =
    let here : slice_get new n ≡ Some w = cc in
    let others : decode new numbers ≡ map Some old = cc in
    let moved : slice_get (front ++ (new ++ rest)) (length front + n) ≡ Some w =
    at-back front (new ++ rest) n ∙ at-front new rest n (slice_get_within new n w here) ∙ here in
    rw (moved, shifted front new rest old numbers others) refl
shifted front new rest old numbers is = cc

-- maps of shards lead behind other strings
behind-front : (front : List (List ℕ)) (olds news : List (List (List ℕ))) (maps : List (List ℕ)) →
    AreShardMaps olds news maps
    → decode (front ++ joined news) (joined_map (length front) (map length news) maps)
    ≡ map Some (joined olds)
behind-front front [] [] [] are = refl
behind-front front (old ∷ olds) (new ∷ news) (numbers ∷ maps) are =
    let strings = front ++ (new ++ joined news) in
    let first = map (λ k. length front + k) numbers in
    let others = joined_map (length front + length new) (map length news) maps in
    let here = shifted front new (joined news) old numbers are.0 in
    let rest = behind-front (front ++ new) olds news maps are.1 in
    grind (arith, common_steps)
behind-front front olds news maps are = absurd are

-- one map more
pub map-push : (n : ℕ) (counts : List ℕ) (maps : List (List ℕ)) (count : ℕ) (numbers : List ℕ) →
    length counts ≡ length maps
    → joined_map n (counts ++ count ∷ []) (maps ++ numbers ∷ []) ≡ joined_map n counts maps
    ++ map (λ k. n + sum_of counts + k) numbers
map-push n [] [] count numbers same =
    let first : map (λ k. n + k) numbers ≡ map (λ k. n + 0 + k) numbers =
    ap (λ m. map (λ k. m + k) numbers) (omega arith) in
    append-nil (map (λ k. n + k) numbers) ∙ first
map-push n (c ∷ counts) (m ∷ maps) count numbers same =
    let rest = map-push (n + c) counts maps count numbers (omega (arith, same)) in
    let sum-is : n + c + sum_of counts ≡ n + sum_of (c ∷ counts) = omega arith in
    grind (arith, common_steps)
map-push n counts maps count numbers same = absurd (omega (arith, same))

-- the maps of shards, as one map, lead from all strings of the shards to all those of the others
pub maps-join : ShardMapsJoin
maps-join olds news maps are = behind-front [] olds news maps are

-- what the proof of the law on maps of shards uses
pub ruleset shard_maps = (maps-join)
