-- What is interned of the strings that pass a test, and of all strings.
use Rattle.std.proofs.Common.{◌≡◌, ◌≢◌, ◌∙◌, ◌==◌, ℕ, ◌+◌, Bool, true, false, cond, List, [], ◌∷◌, ◌++◌, map, Option, Some, option_map, is_some, refl, ap, arith, filter, flat_map}
use Rattle.intaglio_frozen.proofs.Names.{common_steps, first, interned, interned_all, key_eq-unequal, string_key, union, ShardsMerge}
use Rattle.intaglio_frozen.specs.Shards.{shard_of}

module _ (p : List ℕ → Bool) where
  next-there : (same : Bool) (o q : Option ℕ) → is_some o ≡ is_some q
      → is_some (cond same (Some 0) (option_map (λ i. 1 + i) o))
      ≡ is_some (cond same (Some 0) (option_map (λ i. 1 + i) q))
  next-there same o q e = grind (arith, common_steps)

  there-behind : (o q : Option ℕ) → is_some o ≡ is_some q → is_some o ≡ is_some (option_map (λ i. 1 + i) q)
  there-behind o q e = grind (arith, common_steps)

  unequal : (v w : List ℕ) → p v ≡ false → p w ≡ true → string_key v ≢ string_key w
  unequal v w fails passes e = let equal : v ≡ w = cc in let other = ap p equal in cc

  passed-there : (v w : List ℕ) (held : List (List ℕ)) → p w ≡ true
      → is_some (first string_key (filter p held) (string_key w))
      ≡ is_some (first string_key held (string_key w))
      → is_some (first string_key (filter p (v ∷ held)) (string_key w))
      ≡ is_some (first string_key (v ∷ held) (string_key w))
  passed-there v w held passes same =
      grind (arith, common_steps, unequal v w, key_eq-unequal (string_key v) (string_key w), next-there, there-behind)

  -- a string that passes is there exactly if it is among those that pass
  there : (w : List ℕ) (held : List (List ℕ)) → p w ≡ true →
      is_some (first string_key (filter p held) (string_key w))
      ≡ is_some (first string_key held (string_key w))
  there w [] passes = refl
  there w (v ∷ held) passes = passed-there v w held passes (there w held passes)

  -- what passes of what is interned
  kept : (w : List ℕ) (held : List (List ℕ)) (found : Bool)
      → (p w ≡ true → found ≡ is_some (first string_key held (string_key w)))
      → filter p (interned string_key held w)
      ≡ cond (p w) (cond found (filter p held) (filter p held ++ w ∷ [])) (filter p held)
  kept w held found there = grind (arith, common_steps)

  -- what passes of what is interned is what is interned of those that pass
  pub filter-interned : (held ws : List (List ℕ)) →
      filter p (interned_all string_key held ws) ≡ interned_all string_key (filter p held) (filter p ws)
  filter-interned held [] = refl
  filter-interned held (w ∷ ws) =
      let now = kept w held _ (there w held) in
      grind (arith, common_steps, filter-interned (interned string_key held w) ws)

  -- what passes of lists that are joined is what passes of each, joined
  pub filter-joined : (lists : List (List (List ℕ))) →
      filter p (flat_map (λ ws. ws) lists) ≡ flat_map (λ ws. ws) (map (filter p) lists)
  filter-joined [] = refl
  filter-joined (ws ∷ lists) = grind (arith, common_steps, filter-joined lists)

  -- what passes of a union is the union of what passes of each list
  pub filter-union : (lists : List (List (List ℕ))) → filter p (union lists) ≡ union (map (filter p) lists)
  filter-union lists = filter-interned [] (flat_map (λ ws. ws) lists)
      ∙ ap (interned_all string_key []) (filter-joined lists)

-- a shard of a union is the union of that shard of each list
pub shards_merge : ShardsMerge
shards_merge count s lists = filter-union (λ w. shard_of count w == s) lists
