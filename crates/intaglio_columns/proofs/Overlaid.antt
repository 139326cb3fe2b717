-- A list that is written over places, item by item.
use Rattle.intaglio_columns.proofs.Names.{common_steps, IsFirstRow, overlaid, rows_from, rows_past, cases_lt, get_or-drop, slice_get-get_or, slice_get_within, get_or_from_slice_get}
use Rattle.std.proofs.Common.{◌≡◌, ◌∙◌, ℕ, ◌+◌, ◌<◌, ◌≤◌, Bool, List, [], ◌∷◌, ◌++◌, length, set, sym, ap, arith, length-append, zero, suc, take, drop, slice_get, Some, refl, length-drop, length-take-le}
use Rattle.intaglio_columns.proofs.Past.{more-rows-of}
use Rattle.intaglio_columns.proofs.Listed.{next}

-- one more, where there is a place for it
pub overlaid-more : (ns : List ℕ) (n : ℕ) (places : List ℕ) → length ns < length places →
    set (overlaid ns places) (length ns) n ≡ overlaid (ns ++ n ∷ []) places
overlaid-more [] n [] l = absurd (omega (arith, l))
overlaid-more [] n (place ∷ places) l = refl
overlaid-more (m ∷ ns) n [] l = absurd (omega (arith, l))
overlaid-more (m ∷ ns) n (place ∷ places) l = ap (λ t. m ∷ t) (overlaid-more ns n places (omega (arith, l)))

-- and where there is none
pub overlaid-full : (ns : List ℕ) (n : ℕ) (places : List ℕ) → length places ≤ length ns →
    overlaid ns places ≡ overlaid (ns ++ n ∷ []) places
overlaid-full [] n [] l = refl
overlaid-full [] n (place ∷ places) l = absurd (omega (arith, l))
overlaid-full (m ∷ ns) n [] l = refl
overlaid-full (m ∷ ns) n (place ∷ places) l = ap (λ t. m ∷ t) (overlaid-full ns n places (omega (arith, l)))

-- as many as there are places or items
pub overlaid-all : (ns places : List ℕ) (k : ℕ) → k ≤ length ns → (k < length ns → k ≡ length places) →
    overlaid (take k ns) places ≡ overlaid ns places
overlaid-all [] places zero l full = refl
overlaid-all [] places (suc k) l full = refl
overlaid-all (n ∷ ns) [] zero l full = refl
overlaid-all (n ∷ ns) [] (suc k) l full = refl
overlaid-all (n ∷ ns) (place ∷ places) zero l full = absurd (omega (arith, full (omega arith)))
overlaid-all (n ∷ ns) (place ∷ places) (suc k) l full =
    ap (λ t. n ∷ t)
    (overlaid-all ns places k (omega (arith, l)) (λ m. omega (arith, full (omega (arith, m)))))

-- what is read behind others
pub read-behind : (cs : List ℕ) (from i c : ℕ) → slice_get cs (from + i) ≡ Some c →
    slice_get (drop from cs) i ≡ Some c
read-behind cs from i c at =
    let within = slice_get_within cs (from + i) c at in
    slice_get-get_or (drop from cs) i 0 (omega (arith, within, length-drop from cs))
    ∙ ap Some (get_or-drop from cs i 0 ∙ get_or_from_slice_get cs (from + i) c 0 at)

-- the item at a place of its own
pub overlaid-next : (ns places now : List ℕ) (i n : ℕ) → now ≡ overlaid (take i ns) places →
    i < length places → slice_get ns i ≡ Some n → set now i n ≡ overlaid (take (i + 1) ns) places
overlaid-next ns places now i n e l at =
    let size : length (take i ns) ≡ i = length-take-le i ns (omega (arith, slice_get_within ns i n at)) in
    rw (e, next ns i n at) (ap (λ k. set (overlaid (take i ns) places) k n) (sym size)
    ∙ overlaid-more (take i ns) n places (omega (arith, size, l)))

-- a number, if there is a place for it
pub overlaid-put : (ns places now new : List ℕ) (k n : ℕ) → now ≡ overlaid ns places → k ≡ length ns →
    length now ≡ length places
    → (k < length now → new ≡ set now k n) → (length now ≤ k → new ≡ now) →
    new ≡ overlaid (ns ++ n ∷ []) places
overlaid-put ns places now new k n e size same there none = grind (arith, common_steps, cases_lt, overlaid-more, overlaid-full)

-- when a list is written over places, there are as many places as before
pub overlaid-length : (ns places : List ℕ) → length (overlaid ns places) ≡ length places
overlaid-length [] places = refl
overlaid-length (n ∷ ns) [] = refl
overlaid-length (n ∷ ns) (place ∷ places) = ap suc (overlaid-length ns places)

-- the rows before this one that pass are over the first places
pub record ArePlaced (p : ℕ → Bool) (cs places : List ℕ) (from : ℕ) (now : List ℕ) (count : ℕ) : Type 0 where
  pub done : List ℕ
  pub parts : done ++ rows_past p from cs ≡ rows_from p 0 cs
  pub over : now ≡ overlaid done places
  pub size : count ≡ length done
  pub few : count ≤ from

-- before the first row, no row has been written over the places
pub none-placed : {p : ℕ → Bool} {cs places : List ℕ} → ArePlaced p cs places 0 places 0
none-placed = grind (arith, common_steps)

-- the next row that passes goes over the place behind the others, if there is one, and is counted
pub next-placed : {p : ℕ → Bool} {cs places : List ℕ} {from : ℕ} {now : List ℕ} {count : ℕ} {new : List ℕ}
    {row : ℕ} → ArePlaced p cs places from now count → IsFirstRow p from cs row →
    (count < length now → new ≡ set now count row) → (length now ≤ count → new ≡ now)
    → ArePlaced p cs places (row + 1) new (count + 1)
next-placed {p} {cs} {places} {from} {now} {count} {new} {row} before is there none =
    let long : length now ≡ length places = ap length before.over ∙ overlaid-length before.done places in
    record {
      done = before.done ++ row ∷ [];
      parts = more-rows-of p cs before.done (rows_from p 0 cs) from row before.parts is;
      over = overlaid-put before.done places now new count row before.over before.size long there none;
      size = ap (λ n. n + 1) before.size ∙ sym (length-append before.done (row ∷ []));
      few = omega (arith, before.few, is.order);
    }
