-- What is read of records among the bytes of all.
use Rattle.intaglio_records.proofs.Names.{common_steps, concat, drop-append-le, drop-drop, get_or_append_left, get_or-drop, length-append, length-drop, take-append-le, sum_by-cons, sum_by_more_le, hash_at, number_at, AreRecords, position}
use Rattle.std.proofs.Common.{◌≡◌, ℕ, ◌+◌, ◌-◌, ◌%◌, ◌^◌, ◌<◌, ◌≤◌, suc, zero, List, [], ◌∷◌, ◌++◌, length, min, take, drop, get_or, slice_range, sum_by, refl, ◌∙◌, arith, take_all}

-- the bytes of all records
pub length-concat : (rs : List (List ℕ)) → length (concat rs) ≡ sum_by length rs
length-concat [] = refl
length-concat (r ∷ rs) = grind (arith, common_steps, length-append, sum_by-cons, length-concat rs)

-- a record is where it begins, and the others are behind it
pub part-at : (rs : List (List ℕ)) (i : ℕ) → i < length rs
    → drop (position rs i) (concat rs) ≡ get_or rs i [] ++ concat (drop (suc i) rs)
part-at [] i l = absurd (omega (arith, l))
part-at (r ∷ rs) zero l = refl
part-at (r ∷ rs) (suc i) l = grind (arith, common_steps, sum_by-cons length r (take i rs), drop-drop (position rs i) (length r) (r ++ concat rs), part-at rs i)

-- all of it
pub record-within : (rs : List (List ℕ)) (i : ℕ) → i < length rs
    → position rs i + length (get_or rs i []) ≤ length (concat rs)
record-within rs i l = omega (arith, length-concat rs, sum_by_more_le length rs i [] l)

-- a byte of it
pub byte-at : (rs : List (List ℕ)) (i k : ℕ) → i < length rs → k < length (get_or rs i [])
    → get_or (concat rs) (position rs i + k) 0 ≡ get_or (get_or rs i []) k 0
byte-at rs i k l within = grind (arith, common_steps, get_or-drop (position rs i) (concat rs) k 0, part-at rs i l, get_or_append_left)

-- and its string
pub string-there : (rs : List (List ℕ)) (i start n : ℕ) → i < length rs → start ≡ position rs i + 13
    → n + 13 ≡ length (get_or rs i [])
    → slice_range (concat rs) start (start + n) ≡ drop 13 (get_or rs i [])
string-there rs i start n l s e =
    let r = get_or rs i [] in
    let size : start + n - start ≡ n = omega arith in
    let front : drop start (concat rs) ≡ drop 13 r ++ concat (drop (suc i) rs) =
    rw (s, ← drop-drop 13 (position rs i) (concat rs), part-at rs i l) (drop-append-le 13 r _ (omega (arith, e))) in
    rw (size, front) (take-append-le n (drop 13 r) _ (omega (arith, e, length-drop 13 r))
    ∙ take_all n (drop 13 r) (omega (arith, e, length-drop 13 r)))

-- what is known of record i, which begins at this byte
pub record There (rs : List (List ℕ)) (bytes : List ℕ) (at i : ℕ) : Type 0 where
  pub long : 13 ≤ length (get_or rs i [])
  pub within : at + length (get_or rs i []) ≤ length bytes
  pub size : get_or bytes (at + 12) 0 ≡ min (length (get_or rs i []) - 13) 255
  pub number : number_at bytes at ≡ i
  pub hash : hash_at bytes at ≡ hash_at (get_or rs i []) 0

-- each of at most 2 ^ 32 records is within the bytes from its position on, with its length, number and hash
pub there : (rs : List (List ℕ)) (bytes : List ℕ) (at i : ℕ) → bytes ≡ concat rs → AreRecords rs
    → length rs ≤ 2 ^ 32 → i < length rs → at ≡ position rs i → There rs bytes at i
there rs bytes at i all each few l e = grind (arith, common_steps, each i l, record-within, byte-at)

-- what the proofs of reading of records use
pub ruleset reading_rules = (there, string-there, slice_range, record-within, byte-at)
