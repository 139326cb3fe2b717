-- What strings write to a hasher, one after the other.
use Rattle.intaglio_frozen.proofs.Names.{common_steps, concat, flat_map, w32, to_le_bytes, write_byte, drop_more, fold-append, DictionaryId, hashed_under, set_of_shards, shards_bytes, end_behind, end_bytes}
use Rattle.std.proofs.Common.{◌≡◌, ◌≢◌, ◌∙◌, ℕ, ◌+◌, ◌<◌, ◌≤◌, List, [], ◌∷◌, ◌++◌, length, drop, get_or, slice_get, Some, refl, sym, ap, arith}
use Rattle.std.specs.Hash.DefaultHasher.{write}
use Rattle.std.specs.declared.hash.DefaultHasher.{DefaultHasher}
use Rattle.intaglio_frozen.proofs.HashedAhead.{drop_there}

-- bytes behind others
pub write-behind : (h : DefaultHasher) (xs ys : List ℕ) → write (write h xs) ys ≡ write h (xs ++ ys)
unfolding write
write-behind h xs ys = sym (fold-append write_byte h xs ys)

-- bytes behind those that were written
pub written-behind : (h now : DefaultHasher) (xs ys : List ℕ) → now ≡ write h xs →
    write now ys ≡ write h (xs ++ ys)
written-behind h now xs ys written = ap (λ t. write t ys) written ∙ write-behind h xs ys

-- writing no bytes leaves a hasher as it is
pub write-none : (h : DefaultHasher) → write h [] ≡ h
unfolding write
write-none h = refl

-- the bytes of one more item
pub next-item : {X : Type 0} (f : X → List ℕ) (h now : DefaultHasher) (i : ℕ) (d : X) (xs : List X) →
    i < length xs → now ≡ write h (f (get_or xs i d))
    → write now (flat_map f (drop (i + 1) xs)) ≡ write h (flat_map f (drop i xs))
next-item f h now i d xs l written =
    written-behind h now (f (get_or xs i d)) (flat_map f (drop (i + 1) xs)) written
    ∙ ap (λ t. write h (flat_map f t)) (sym (drop_more xs i d l))

-- if no items are left, their bytes leave a hasher as it is
pub last_item : {X : Type 0} (f : X → List ℕ) (h : DefaultHasher) (i : ℕ) (xs : List X) → length xs ≤ i →
    h ≡ write h (flat_map f (drop i xs))
last_item f h i xs l = grind (arith, common_steps, write-none)

-- the end of one more string
pub next_end : (h now : DefaultHasher) (end next i : ℕ) (w : List ℕ) (ws : List (List ℕ)) →
    slice_get ws i ≡ Some w → next ≡ end_behind end w
    → now ≡ write h (to_le_bytes w32 next) → write now (end_bytes next (drop (i + 1) ws))
    ≡ write h (end_bytes end (drop i ws))
next_end h now end next i w ws at is written =
    rw (drop_there ws i w at, ← is) (written-behind h now (to_le_bytes w32 next) (end_bytes next (drop (i + 1) ws)) written)

-- if no strings are left, their ends leave a hasher as it is
pub last_end : (h : DefaultHasher) (end i : ℕ) (ws : List (List ℕ)) → length ws ≤ i →
    h ≡ write h (end_bytes end (drop i ws))
last_end h end i ws l = grind (arith, common_steps, write-none)

-- the bytes of one more string
pub next_text : (h now : DefaultHasher) (i : ℕ) (w : List ℕ) (ws : List (List ℕ)) → slice_get ws i ≡ Some w →
    now ≡ write h w
    → write now (concat (drop (i + 1) ws)) ≡ write h (concat (drop i ws))
next_text h now i w ws at written =
    rw (drop_there ws i w at) (written-behind h now w (concat (drop (i + 1) ws)) written)

-- if no strings are left, their bytes leave a hasher as it is
pub last_text : (h : DefaultHasher) (i : ℕ) (ws : List (List ℕ)) → length ws ≤ i →
    h ≡ write h (concat (drop i ws))
last_text h i ws l = grind (arith, common_steps, write-none)

-- if there isn't one shard, the set is the hash of all
pub set_hashed : (ids : List DictionaryId) → length ids ≢ 1 → hashed_under 2 (shards_bytes ids) ≡ set_of_shards ids
set_hashed (id ∷ []) several = absurd (several refl)
set_hashed [] several = refl
set_hashed (first ∷ second ∷ ids) several = refl
