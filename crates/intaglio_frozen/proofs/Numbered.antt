-- The map from a list to its shards, one behind the other.
use Rattle.intaglio_frozen.proofs.Names.{common_steps, cases_eq, slice_get_within, slice_get-front, IsMap, AreNumbered, first_shards, joined, shard}
use Rattle.std.proofs.Common.{◌≡◌, ◌∙◌, ℕ, zero, suc, ◌+◌, ◌<◌, ◌≤◌, ◌==◌, List, [], ◌∷◌, ◌++◌, get_or, length, map, take, drop, Some, refl, sym, ap, arith, length-append, ◌⊎◌, inl, inr, slice_get, set, take-append-drop}
use Rattle.std.proofs.lemmas.List.Elements.{filter-append}
use Rattle.intaglio_frozen.specs.Shards.{shard_of}
use Rattle.intaglio_frozen.proofs.Sharded.{at-back, next-in, next-out, pushed-length}

-- how many strings the first shards have, with a string that the shard s has or hasn't in front of others
one-more : (count : ℕ) (w : List ℕ) (ws : List (List ℕ)) (s a b : ℕ) →
    (a ≤ suc b) × (s ≤ shard_of count w → a ≡ b)
    → (a + length (shard count (w ∷ ws) s) ≤ suc (b + length (shard count ws s)))
    × (suc s ≤ shard_of count w → a + length (shard count (w ∷ ws) s) ≡ b + length (shard count ws s))
one-more count w ws s a b so_far = grind (arith, common_steps)

module _ (count : ℕ) where
  -- a string in front of others makes the first shards longer by one, unless they are before its own
  one-more-string : (w : List ℕ) (ws : List (List ℕ)) (s : ℕ) →
      (length (joined (first_shards count (w ∷ ws) s)) ≤ suc (length (joined (first_shards count ws s))))
      × (s ≤ shard_of count w
      → length (joined (first_shards count (w ∷ ws) s)) ≡ length (joined (first_shards count ws s)))
  one-more-string w ws zero = (omega arith, λ _. refl)
  one-more-string w ws (suc s) =
      rw (pushed-length (first_shards count (w ∷ ws) s) (shard count (w ∷ ws) s), pushed-length (first_shards count ws s) (shard count ws s)) (one-more count w ws s _ _ (one-more-string w ws s))

  nothing : (s : ℕ) → length (joined (first_shards count [] s)) ≡ 0
  nothing zero = refl
  nothing (suc s) = omega (arith, nothing s, pushed-length (first_shards count [] s) [])

  -- the first shards have no more strings than the list
  pub few-strings : (strings : List (List ℕ)) (s : ℕ) →
      length (joined (first_shards count strings s)) ≤ length strings
  few-strings [] s = omega (arith, nothing s)
  few-strings (w ∷ ws) s = omega (arith, (one-more-string w ws s).0, few-strings ws s)

-- a string behind others stands at the position that is their number
placed-last : (xs : List (List ℕ)) (w : List ℕ) (n : ℕ) → n ≡ length xs → slice_get (xs ++ w ∷ []) n ≡ Some w
placed-last xs w n is = grind (arith, common_steps, at-back xs (w ∷ []) 0)

-- the strings of the shards before this one, and those of the first strings that are in it
abbrev pub so_far : ℕ → List (List ℕ) → ℕ → ℕ → List (List ℕ)
so_far count strings number i =
    joined (first_shards count strings number) ++ shard count (take i strings) number

-- each of these has its place among them
abbrev pub HavePlaces : ℕ → List (List ℕ) → List ℕ → ℕ → ℕ → List ℕ → Type 0
HavePlaces count strings shards number i numbers = (j : ℕ) (v : List ℕ) → slice_get strings j ≡ Some v →
    (get_or shards j 0 < number) ⊎ ((get_or shards j 0 ≡ number) × (j < i))
    → slice_get (so_far count strings number i) (get_or numbers j 0) ≡ Some v

module _ (count : ℕ) (strings : List (List ℕ)) (shards : List ℕ) (are : shards ≡ map (shard_of count) strings)
    (number : ℕ) where
  module _ (i : ℕ) (w : List ℕ) (at : slice_get strings i ≡ Some w) where
    -- a string of this shard comes behind the strings so far
    pub far-in : get_or shards i 0 ≡ number →
        so_far count strings number (i + 1) ≡ so_far count strings number i ++ w ∷ []
    far-in is = grind (arith, common_steps, next-in count strings shards are i number w at is)

    -- a string of another one changes nothing of them
    pub far-out : (get_or shards i 0 ≡ number → ⊥) →
        so_far count strings number (i + 1) ≡ so_far count strings number i
    far-out not = rw (next-out count strings shards are i number w at not) refl

    earlier : (j : ℕ) → (get_or shards j 0 < number) ⊎ ((get_or shards j 0 ≡ number) × (j < i + 1)) →
        (get_or shards j 0 ≡ number → j ≡ i → ⊥)
        → (get_or shards j 0 < number) ⊎ ((get_or shards j 0 ≡ number) × (j < i))
    earlier j which not = grind arith

    -- with its number set, if it is in the shard
    pub places-in : (numbers : List ℕ) (next : ℕ) → get_or shards i 0 ≡ number →
        next ≡ length (so_far count strings number i) → i < length numbers →
        HavePlaces count strings shards number i numbers →
        HavePlaces count strings shards number (i + 1) (set numbers i next)
    places-in numbers next is there within have j v stands which =
        let far = far-in is in
        elim (cases_eq j i) [
          | inl same ↦
              let equal : Some w ≡ Some v = grind (arith, common_steps) in
              grind (arith, common_steps, placed-last (so_far count strings number i) w next there)
          | inr not ↦
              let before = have j v stands (earlier j which (λ _. not)) in
              grind (arith, common_steps, slice_get-front (so_far count strings number i) (w ∷ []) (get_or numbers j 0) v before)
        ]

    -- and as it is, if it isn't
    pub places-out : (numbers : List ℕ) → (get_or shards i 0 ≡ number → ⊥) →
        HavePlaces count strings shards number i numbers →
        HavePlaces count strings shards number (i + 1) numbers
    places-out numbers isnt have j v stands which =
        let not : get_or shards j 0 ≡ number → j ≡ i → ⊥ = λ here e. isnt (ap (λ k. get_or shards k 0) (sym e) ∙ here) in
        rw (far-out isnt) (have j v stands (earlier j which not))

  -- at first
  pub first-places : (numbers : List ℕ) →
      AreNumbered strings shards (joined (first_shards count strings number)) number numbers →
      HavePlaces count strings shards number 0 numbers
  first-places numbers before j v stands which = grind (arith, common_steps, before j v stands)

  all-far : (i : ℕ) → i ≡ length strings →
      so_far count strings number i ≡ joined (first_shards count strings (number + 1))
  all-far i all = grind (arith, common_steps)

  -- in the end there are as many as this shard and all before it have
  pub far-length : (i : ℕ) → i ≡ length strings →
      length (so_far count strings number i) ≡ length (joined (first_shards count strings (number + 1)))
  far-length i all = ap length (all-far i all)

  -- in the end
  pub last-places : (numbers : List ℕ) (i : ℕ) → i ≡ length strings →
      HavePlaces count strings shards number i numbers →
      AreNumbered strings shards (joined (first_shards count strings (number + 1))) (number + 1) numbers
  last-places numbers i all have j v stands below =
      let within : j < i = omega (arith, all, slice_get_within strings j v stands) in
      let which : (get_or shards j 0 < number) ⊎ ((get_or shards j 0 ≡ number) × (j < i)) = grind arith in
      rw (← all-far i all) (have j v stands which)

  -- there are never more than there are strings
  pub far-few : (i : ℕ) → length (so_far count strings number i) ≤ length strings
  far-few i =
      let parts = filter-append (λ w. shard_of count w == number) (take i strings) (drop i strings) in
      omega (
        arith,
        few-strings count strings (suc number),
        pushed-length (first_shards count strings number) (shard count strings number),
        ap length (rw take-append-drop at parts),
        length-append (shard count (take i strings) number) (shard count (drop i strings) number),
        length-append (joined (first_shards count strings number)) (shard count (take i strings) number),
      )

-- numbers at which the strings stand are a map
pub map-from-places : (strings new : List (List ℕ)) (numbers : List ℕ) → length numbers ≡ length strings
    → ((i : ℕ) (w : List ℕ) → slice_get strings i ≡ Some w → slice_get new (get_or numbers i 0) ≡ Some w) →
    IsMap strings new numbers
map-from-places [] new [] same places = refl
map-from-places [] new (n ∷ numbers) same places = absurd (omega (arith, same))
map-from-places (w ∷ strings) new [] same places = absurd (omega (arith, same))
map-from-places (w ∷ strings) new (n ∷ numbers) same places =
    rw (
      places 0 w refl,
      map-from-places strings new numbers (omega (arith, same)) (λ i v at. places (suc i) v at),
    ) refl

-- and they are one if each string is in one of the shards
pub numbered-map : (count : ℕ) (strings : List (List ℕ)) (shards numbers : List ℕ) →
    length numbers ≡ length strings → ((i : ℕ) → i < length strings → get_or shards i 0 < count)
    → AreNumbered strings shards (joined (first_shards count strings count)) count numbers →
    IsMap strings (joined (first_shards count strings count)) numbers
numbered-map count strings shards numbers same below are =
    map-from-places strings (joined (first_shards count strings count)) numbers same (λ i w at.
    are i w at (below i (slice_get_within strings i w at)))
