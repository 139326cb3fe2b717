-- Where the strings of shards stand when the shards are joined.
use Rattle.intaglio_frozen.proofs.Names.{common_steps, flat_map-append, get_or-map, length-map, take-append-drop, get_or_from_slice_get, gets, slice_get_read, slice_get_within, slice_get-get_or, first, Distinct, first-append, key_eq-unequal, or_at, some-below, string_key, AreShards, joined, shard, starts_from, AreAllDistinct, AreEachDistinct, cases_lt}
use Rattle.std.proofs.Common.{◌≡◌, ◌≢◌, ◌∙◌, ℕ, zero, suc, ◌+◌, ◌-◌, ◌<◌, ◌≤◌, List, [], ◌∷◌, ◌++◌, get_or, length, map, take, drop, Option, Some, None, option_map, refl, sym, ap, arith, length-append, slice_get, inl, inr}
use Rattle.intaglio_frozen.specs.Shards.{shard_of}
use Rattle.intaglio_frozen.proofs.HashedAhead.{drop_there, take_there}
use Rattle.intaglio_frozen.proofs.Renumbered.{apart}

-- the numbers of the first strings, when a shard comes behind the others
pub starts_push : (n : ℕ) (shards : List (List (List ℕ))) (ws : List (List ℕ)) →
    starts_from n (shards ++ ws ∷ []) ≡ starts_from n shards ++ (n + length (joined shards)) ∷ []
starts_push n [] ws = ap (λ t. t ∷ []) (omega arith)
starts_push n (us ∷ shards) ws = grind (arith, common_steps, starts_push (n + length us) shards ws)

-- the number of the first string of a shard
pub start-at : (n : ℕ) (shards : List (List (List ℕ))) (s : ℕ) (ws : List (List ℕ)) →
    slice_get shards s ≡ Some ws
    → slice_get (starts_from n shards) s ≡ Some (n + length (joined (take s shards)))
start-at n [] s ws at = cc
start-at n (us ∷ shards) zero ws at = ap Some (omega arith)
start-at n (us ∷ shards) (suc s) ws at =
    grind (arith, common_steps, start-at (n + length us) shards s ws at)

-- the string at a place of a list, when others come behind it
pub at-front : (xs ys : List (List ℕ)) (n : ℕ) → n < length xs → slice_get (xs ++ ys) n ≡ slice_get xs n
at-front xs ys n below = grind (arith, common_steps, gets)

-- and of the others
pub at-back : (xs ys : List (List ℕ)) (n : ℕ) → slice_get (xs ++ ys) (length xs + n) ≡ slice_get ys n
at-back [] ys n = ap (slice_get ys) (omega arith)
at-back (x ∷ xs) ys n = grind (arith, common_steps, at-back xs ys n)

-- by its place among all
pub past-front : (xs ys : List (List ℕ)) (n : ℕ) → length xs ≤ n →
    slice_get (xs ++ ys) n ≡ slice_get ys (n - length xs)
past-front xs ys n past = grind (arith, at-back xs ys (n - length xs))

-- no string with another shard is the sought one
pub others-differ : (shard : List ℕ → ℕ) (w : List ℕ) (vs : List (List ℕ)) →
    ((i : ℕ) (v : List ℕ) → slice_get vs i ≡ Some v → shard v ≢ shard w)
    → first string_key vs (string_key w) ≡ None
others-differ shard w [] other = refl
others-differ shard w (v ∷ vs) other =
    let unequal : string_key v ≢ string_key w = λ e. let same : v ≡ w = cc in other 0 v refl (ap shard same) in
    rw (key_eq-unequal _ _ unequal, others-differ shard w vs (λ i u at. other (suc i) u at)) refl

-- nor is one of shards that are all others
pub all-differ : (shard : List ℕ → ℕ) (w : List ℕ) (shards : List (List (List ℕ)))
    → ((s : ℕ) (us : List (List ℕ)) → slice_get shards s ≡ Some us → (i : ℕ) (v : List ℕ) →
    slice_get us i ≡ Some v → shard v ≢ shard w)
    → first string_key (joined shards) (string_key w) ≡ None
all-differ shard w [] other = refl
all-differ shard w (us ∷ shards) other =
    rw (first-append string_key us (joined shards), others-differ shard w us (other 0 us refl)) (rw (all-differ shard w shards (λ s vs at. other (suc s) vs at)) refl)

-- if the second of two places is none, the first of both is the first one, counted from 0
or_at-none : (n : ℕ) (o : Option ℕ) → or_at n o None ≡ option_map (λ i. 0 + i) o
or_at-none n o = grind (arith, common_steps)

-- counting a place on by m and by n is counting it on by their sum
map-sum : (m n k : ℕ) (o : Option ℕ) → m + n ≡ k → option_map (λ i. m + i) (option_map (λ i. n + i) o)
    ≡ option_map (λ i. k + i) o
map-sum m n k o e = grind (arith, common_steps)

-- a string is found in the joined shards where it is found in its shard, behind the shards before it
pub found-in : (shard : List ℕ → ℕ) (w : List ℕ) (m : ℕ) (shards : List (List (List ℕ))) (s : ℕ)
    (ws : List (List ℕ))
    → ((t : ℕ) (us : List (List ℕ)) → slice_get shards t ≡ Some us → (i : ℕ) (v : List ℕ) →
    slice_get us i ≡ Some v → shard v ≡ m + t)
    → shard w ≡ m + s → slice_get shards s ≡ Some ws
    → first string_key (joined shards) (string_key w) ≡ option_map (λ i. length (joined (take s shards)) + i)
    (first string_key ws (string_key w))
found-in shard w m [] s ws placed is at = cc
found-in shard w m (us ∷ shards) zero ws placed is at =
    let same : us ≡ ws = cc in
    let rest = all-differ shard w shards (λ t vs there i v stands e. absurd (omega (arith, placed (suc t) vs there i v stands, e, is))) in
    rw (first-append string_key us (joined shards), rest, or_at-none (length us), same) refl
found-in shard w m (us ∷ shards) (suc s) ws placed is at =
    let here = others-differ shard w us (λ i v stands e. absurd (omega (arith, placed 0 us refl i v stands, e, is))) in
    let rest = found-in shard w (m + 1) shards s ws (λ t vs there i v stands. omega (arith, placed (suc t) vs there i v stands)) (omega (arith, is)) at in
    rw (first-append string_key us (joined shards), here, rest) (map-sum _ _ _ _ (sym (length-append us (joined (take s shards)))))

-- shards with one more behind them have as many strings as they and the one together
pub pushed-length : (xs : List (List (List ℕ))) (ws : List (List ℕ)) →
    length (joined (xs ++ ws ∷ [])) ≡ length (joined xs) + length ws
pushed-length xs ws = grind (arith, common_steps)

-- the shards up to one have its strings and those of the shards before it
pub joined_next : (shards : List (List (List ℕ))) (s : ℕ) (ws : List (List ℕ)) →
    slice_get shards s ≡ Some ws → length (joined (take (s + 1) shards)) ≡ length (joined (take s shards))
    + length ws
joined_next shards s ws at = rw (take_there shards s ws at) (pushed-length (take s shards) ws)

-- which are no more than all
pub joined_front : (shards : List (List (List ℕ))) (s : ℕ) →
    length (joined (take s shards)) ≤ length (joined shards)
joined_front shards s =
    let parts = flat_map-append (λ ws. ws) (take s shards) (drop s shards) in
    omega (arith, length-append (joined (take s shards)) (joined (drop s shards)), ap length (rw take-append-drop at parts))

-- as many begin as there are
pub starts_length : (n : ℕ) (shards : List (List (List ℕ))) → length (starts_from n shards) ≡ length shards
starts_length n [] = refl
starts_length n (us ∷ shards) = ap suc (starts_length (n + length us) shards)

-- the start that is read at the number of a shard
pub start-read : (starts : List ℕ) (shards : List (List (List ℕ))) (s n : ℕ) (ws : List (List ℕ)) →
    starts ≡ starts_from 0 shards → slice_get shards s ≡ Some ws → n ≡ get_or starts s n
    → n ≡ length (joined (take s shards))
start-read starts shards s n ws from at read =
    rw (from, get_or_from_slice_get _ s _ n (start-at 0 shards s ws at)) at read ∙ omega arith

-- what is found in the shard of a string, and where in all
module _ (shards : List (List (List ℕ))) (starts : List ℕ) (from : starts ≡ starts_from 0 shards)
    (placed : AreShards shards) (w : List ℕ) (count s : ℕ) (ws : List (List ℕ))
    (all : count ≡ length shards) (is : s ≡ shard_of count w) (below : s < count)
    (read : ws ≡ get_or shards s ws) where
  at : slice_get shards s ≡ Some ws
  at = slice_get_read shards count s ws all below read

  found : first string_key (joined shards) (string_key w)
      ≡ option_map (λ i. length (joined (take s shards)) + i) (first string_key ws (string_key w))
  found =
      found-in (shard_of (length shards)) w 0 shards s ws (λ t us there i v stands.
      omega (arith, placed t us there i v stands)) (rw (← all) (omega arith)) at

  -- if it isn't in its shard, it isn't among all
  pub found_none : None ≡ first string_key ws (string_key w) →
      None ≡ first string_key (joined shards) (string_key w)
  found_none e = ap (option_map (λ i. length (joined (take s shards)) + i)) e ∙ sym found

  module _ (n i : ℕ) (begins : n ≡ get_or starts s n) (e : Some i ≡ first string_key ws (string_key w)) where
    -- if it is, it is among all, counted on from where the shard begins
    pub found-some : Some (n + i) ≡ first string_key (joined shards) (string_key w)
    found-some = rw (found, ← e, start-read starts shards s n ws from at begins) refl

    -- which is the number of a string
    pub found_below : n + i < length (joined shards)
    found_below =
        omega (
          arith,
          start-read starts shards s n ws from at begins,
          some-below (map string_key ws) (string_key w) i (sym e),
          length-map ws string_key,
          joined_next shards s ws at,
          joined_front shards (s + 1),
        )

-- the string of a number that is within a shard, or behind it
module _ (shards : List (List (List ℕ))) (s : ℕ) (ws : List (List ℕ))
    (at : slice_get shards s ≡ Some ws) where
  pub within : (n : ℕ) → n < length ws → slice_get (joined (drop s shards)) n ≡ slice_get ws n
  within n below = rw (drop_there shards s ws at) (at-front ws (joined (drop (s + 1) shards)) n below)

  pub behind : (n : ℕ) → length ws ≤ n →
      slice_get (joined (drop s shards)) n ≡ slice_get (joined (drop (s + 1) shards)) (n - length ws)
  behind n past = rw (drop_there shards s ws at) (past-front ws (joined (drop (s + 1) shards)) n past)

-- the last shard and those before it are all
pub all-taken : (shards : List (List (List ℕ))) (s : ℕ) (ws : List (List ℕ)) → slice_get shards s ≡ Some ws →
    length shards ≡ s + 1 → length (joined shards) ≡ length (joined (take s shards)) + length ws
all-taken shards s ws at last = grind (arith, common_steps, joined_next shards s ws at)

-- the next string, if it belongs to the shard and if it doesn't
module _ (count : ℕ) (strings : List (List ℕ)) (shards : List ℕ) (are : shards ≡ map (shard_of count) strings)
    (i n : ℕ) (w : List ℕ) (at : slice_get strings i ≡ Some w) where
  shard-read-at : get_or shards i 0 ≡ shard_of count w
  shard-read-at =
      rw (are, get_or-map (shard_of count) strings i w 0 (slice_get_within strings i w at), get_or_from_slice_get strings i w w at) refl

  pub next-in : get_or shards i 0 ≡ n →
      shard count (take (i + 1) strings) n ≡ shard count (take i strings) n ++ w ∷ []
  next-in is = grind (arith, common_steps, take_there strings i w at, shard-read-at)

  pub next-out : (get_or shards i 0 ≡ n → ⊥) →
      shard count (take (i + 1) strings) n ≡ shard count (take i strings) n
  next-out not = grind (arith, common_steps, take_there strings i w at, shard-read-at)

-- No two strings of all shards are equal, if no two of one shard are.

-- no string stands at two positions
abbrev Apart : List (List ℕ) → Type 0
Apart ws = (i j : ℕ) (w : List ℕ) → i < j → slice_get ws i ≡ Some w → slice_get ws j ≡ Some w → ⊥

-- so no two are equal
pub distinct-from : (ws : List (List ℕ)) → Apart ws → Distinct string_key ws
distinct-from ws alone i j d below within same =
    let most : j < length ws = omega (arith, within, length-map ws string_key) in
    let at-j = slice_get-get_or ws j [] most in
    let first = get_or-map string_key ws i [] d (omega (arith, below, most)) in
    let strings : get_or ws i [] ≡ get_or ws j [] = cc (first, get_or-map string_key ws j [] d most) in
    alone i j (get_or ws i []) below (slice_get-get_or ws i [] (omega (arith, below, most)))
    (at-j ∙ ap Some (sym strings))

-- of two lists, if they have no string in common
together : (us vs : List (List ℕ)) → Apart us → Apart vs
    → ((i j : ℕ) (w : List ℕ) → slice_get us i ≡ Some w → slice_get vs j ≡ Some w → ⊥) → Apart (us ++ vs)
together us vs first second others i j w below one other =
    grind (arith, at-front us vs i, at-front us vs j, past-front us vs i, past-front us vs j, first i j w, second (i - length us) (j - length us) w, others i (j - length us) w)

-- lists of which each string has the number of its list, where the first has the number m
abbrev Numbered : (List ℕ → ℕ) → ℕ → List (List (List ℕ)) → Type 0
Numbered shard m shards = (s : ℕ) (us : List (List ℕ)) → slice_get shards s ≡ Some us → (i : ℕ) (w : List ℕ) →
    slice_get us i ≡ Some w → shard w ≡ m + s

-- if strings have the numbers of their lists, from m on, those of all lists but the first have, from m + 1 on
numbered-rest : (shard : List ℕ → ℕ) (m : ℕ) (us : List (List ℕ)) (shards : List (List (List ℕ))) →
    Numbered shard m (us ∷ shards) → Numbered shard (m + 1) shards
numbered-rest shard m us shards placed s vs at i w stands = omega (arith, placed (suc s) vs at i w stands)

-- each string of them all has the number of one of them
at-least : (shard : List ℕ → ℕ) (m : ℕ) (shards : List (List (List ℕ))) → Numbered shard m shards →
    (j : ℕ) (w : List ℕ) → slice_get (joined shards) j ≡ Some w → m ≤ shard w
at-least shard m [] placed j w at = cc
at-least shard m (us ∷ shards) placed j w at =
    elim (cases_lt j (length us)) [
      | inl before ↦ omega (arith, placed 0 us refl j w (sym (at-front us (joined shards) j before) ∙ at))
      | inr past ↦ omega (arith, at-least shard (m + 1) shards (numbered-rest shard m us shards placed) (j - length us) w (sym (past-front us (joined shards) j past) ∙ at))
    ]

-- if strings have the numbers of their lists and no list has a string twice, nor have all lists together
all-apart : (shard : List ℕ → ℕ) (m : ℕ) (shards : List (List (List ℕ))) → Numbered shard m shards →
    ((s : ℕ) (us : List (List ℕ)) → slice_get shards s ≡ Some us → Apart us)
    → Apart (joined shards)
all-apart shard m [] placed each i j w below one other = cc
all-apart shard m (us ∷ shards) placed each i j w below one other =
    let rest = numbered-rest shard m us shards placed in
    together us (joined shards) (each 0 us refl)
    (all-apart shard (m + 1) shards rest (λ s vs at. each (suc s) vs at))
    (λ k n v here there.
    omega (arith, placed 0 us refl k v here, at-least shard (m + 1) shards rest n v there)) i j w
    below one other

-- no two strings of all shards are equal, if no two of one shard are: equal strings would belong to one shard
pub distinct_shards : (shards : List (List (List ℕ))) → AreShards shards → AreEachDistinct shards →
    AreAllDistinct shards
distinct_shards shards placed each = distinct-from (joined shards)
    (all-apart (shard_of (length shards)) 0 shards
    (λ s us at i w stands. omega (arith, placed s us at i w stands)) (λ s us at. apart us (each s us at)))
