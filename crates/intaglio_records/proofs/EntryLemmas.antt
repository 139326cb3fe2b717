-- Entries of records.
use Rattle.intaglio_records.proofs.Names.{common_steps, not-false, get_or-map, get_or-take, get_or_append_left, length-append, length-drop, length-map, length-take, take-append-le, take-take, sum_by-cons, get_or_from_slice_get, get_or-append_seam, hash_at, pair_of, entries, entries_of, position, size_of, slot_of}
use Rattle.std.proofs.Common.{not, ◌≡◌, ℕ, ◌+◌, ◌<◌, ◌≤◌, suc, zero, Bool, List, [], ◌∷◌, ◌++◌, length, take, map, slice_get, Some, min, sum_by, refl, ap, ◌∙◌, arith, take_all}
use Rattle.intaglio_records.proofs.RecordLemmas.{AreLong, are-long}

-- there are n entries of n records
pub length-entries : (long : Bool) (rs : List (List ℕ)) (n : ℕ) → length (entries long rs n) ≡ n
length-entries long rs zero = refl
length-entries long rs (suc n) = ap suc (length-entries long rs n)

-- the entry of record n, whose hash this is, in front of those before it
pub entry-more : (long : Bool) (rs : List (List ℕ)) (n hash : ℕ) (r : List ℕ) → slice_get rs n ≡ Some r
    → hash ≡ hash_at r 0
    → entries long rs (n + 1) ≡ (hash, slot_of long n (position rs n)) ∷ entries long rs n
entry-more long rs n hash r is h = grind (arith, common_steps, get_or_from_slice_get rs n r [] is)

-- where the entries of strings and of their records say that these begin
begins-same : (rs : List (List ℕ)) (n : ℕ) → AreLong rs →
    sum_by size_of (take n (map pair_of rs)) ≡ position rs n
begins-same rs zero long = refl
begins-same [] (suc n) long = refl
begins-same (r ∷ rs) (suc n) long = omega (arith, long 0 (omega arith), length-drop 13 r, sum_by-cons length r (take n rs), sum_by-cons size_of (pair_of r) (take n (map pair_of rs)), begins-same rs n (λ i l. long (suc i) (omega (arith, l))))

-- the entries of strings are those of their records
pub entries-same : (is_long : Bool) (rs : List (List ℕ)) (n : ℕ) → AreLong rs → n ≤ length rs
    → entries_of is_long (map pair_of rs) n ≡ entries is_long rs n
entries-same is_long rs zero long l = refl
entries-same is_long rs (suc n) long l = grind (arith, common_steps, get_or-map, begins-same rs n long, entries-same is_long rs n long)

-- and of all
pub entries-all : (is_long : Bool) (xs : List (ℕ × List ℕ)) (rs : List (List ℕ)) →
    map pair_of rs ≡ xs → AreLong rs
    → entries_of is_long xs (length xs) ≡ entries is_long rs (length rs)
entries-all is_long xs rs same long = grind (arith, common_steps, length-map, entries-same)

-- the bytes of all records
pub sizes-same : (rs : List (List ℕ)) → AreLong rs → sum_by size_of (map pair_of rs) ≡ sum_by length rs
sizes-same [] long = refl
sizes-same (r ∷ rs) long = grind (arith, common_steps, long 0, length-drop 13 r, sum_by-cons length r rs, sum_by-cons size_of (pair_of r) (map pair_of rs), sizes-same rs (λ i l. long (suc i) (omega (arith, l))))

-- the entries of the first n strings stay when a string is added behind them
pub entries-append : (long : Bool) (xs : List (ℕ × List ℕ)) (x : ℕ × List ℕ) (n : ℕ) → n ≤ length xs
    → entries_of long (xs ++ x ∷ []) n ≡ entries_of long xs n
entries-append long xs x zero l = refl
entries-append long xs x (suc n) l = grind (arith, common_steps, get_or_append_left, take-append-le, entries-append long xs x n)

-- with that of the string that is added
pub entries-push : (long : Bool) (xs : List (ℕ × List ℕ)) (x : ℕ × List ℕ) (at : ℕ) → at ≡ sum_by size_of xs
    → entries_of long (xs ++ x ∷ []) (length (xs ++ x ∷ [])) ≡ (x.0, slot_of long (length xs) at)
    ∷ entries_of long xs (length xs)
entries-push long xs x at a =
    grind (arith, common_steps, length-append, get_or-append_seam, take-append-le, take_all, entries-append)

-- and when strings behind them are dropped
pub entries-take : (long : Bool) (m : ℕ) (xs : List (ℕ × List ℕ)) (n : ℕ) → n ≤ m
    → entries_of long (take m xs) n ≡ entries_of long xs n
entries-take long m xs zero l = refl
entries-take long m xs (suc n) l = grind (arith, common_steps, get_or-take, take-take, entries-take long m xs n)

-- so the entries of the first m strings are the first m entries
pub entries-cut : (long : Bool) (m : ℕ) (xs : List (ℕ × List ℕ))
    → entries_of long (take m xs) (length (take m xs)) ≡ entries_of long xs (min m (length xs))
entries-cut long m xs = grind (arith, common_steps, length-take, entries-take)

-- there is an entry for each
pub length-entries_of : (long : Bool) (xs : List (ℕ × List ℕ)) (n : ℕ) → length (entries_of long xs n) ≡ n
length-entries_of long xs zero = refl
length-entries_of long xs (suc n) = ap suc (length-entries_of long xs n)

-- what the proofs of calls of an index use
pub ruleset entry_rules = (common_steps, entries-all, are-long, not, not-false, length-entries_of, sizes-same, sum_by, length-map, entries-push, length-append, entries-same, entries-cut, length-take)
