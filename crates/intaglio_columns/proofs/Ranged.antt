-- Lines that are added to others, and lines of selected rows.
use Rattle.intaglio_columns.proofs.Names.{common_steps, flat_map, Appends, append-nil, flat_map-append, cases_lt, get_or_from_slice_get, slice_get-get_or, IsFirstRow, rows_from, rows_past, number_line, Appends-append, AreRangesBefore, IsRangeFault, IsRowsFault, Appends-nil}
use Rattle.std.proofs.Common.{◌≡◌, ◌∙◌, ℕ, ◌+◌, ◌<◌, Bool, List, [], ◌∷◌, ◌++◌, length, take, get_or, slice_get, Option, Some, refl, ap, append_assoc, arith}
use Rattle.intaglio_columns.proofs.Past.{more-rows-of}
use Rattle.intaglio_columns.specs.declared.rows.RowRange.{RowRange}
use Rattle.intaglio_columns.specs.declared.error.RowsError.{RowsError}
use Rattle.intaglio_columns.specs.declared.error.RowsError.TheVariants.{NoRow, NoLine, Stream}
use Rattle.intaglio_columns.proofs.Listed.{flat_map-next}

-- one more line of the items of a list, behind those before it
pub after-next : {X Y : Type 0} (xs : List X) (n : ℕ) (x : X) → slice_get xs n ≡ Some x →
    (h : Y → List ℕ) (ys zs : List Y) (y : Y) (f : X → List ℕ)
    → flat_map h ys ≡ flat_map h zs ++ flat_map f (take n xs) → h y ≡ f x →
    flat_map h (ys ++ y ∷ []) ≡ flat_map h zs ++ flat_map f (take (n + 1) xs)
after-next xs n x at h ys zs y f before same = grind (arith, common_steps, flat_map-append, append-nil, append_assoc, flat_map-next)

-- the numbers of the rows before this one that pass were put
pub record HavePut (p : ℕ → Bool) (cs : List ℕ) (from : ℕ) (old new : Option (List ℕ)) : Type 0 where
  pub done : List ℕ
  pub parts : done ++ rows_past p from cs ≡ rows_from p 0 cs
  pub put : Appends old new (flat_map number_line done)

module _ {p : ℕ → Bool} {cs : List ℕ} {old : Option (List ℕ)} where
  -- before the first row, nothing was put
  pub none-put : HavePut p cs 0 old old
  none-put = record { done = []; parts = refl; put = Appends-nil old }

  -- the next row that passes is put
  pub row-put : {from row : ℕ} {mid : Option (List ℕ)} (new : Option (List ℕ)) → HavePut p cs from old mid →
      IsFirstRow p from cs row → Appends mid new (number_line row) → HavePut p cs (row + 1) old new
  row-put {from} {row} {mid} new before is more =
      let lines = flat_map-append number_line before.done (row ∷ [])
      ∙ ap (λ t. flat_map number_line before.done ++ t) (append-nil (number_line row)) in
      record {
        done = before.done ++ row ∷ [];
        parts = more-rows-of p cs before.done (rows_from p 0 cs) from row before.parts is;
        put = rw lines (Appends-append old mid new _ _ before.put more);
      }

-- what stands for a range behind the last one
abbrev pub no_range : RowRange
no_range = record { first = 0; last = 0 }

-- the ranges up to this one end at rows that are there, if those before it do, and this one does
pub ranges-further : (n : ℕ) (cs : List ℕ) (ranges : List RowRange) → AreRangesBefore n cs ranges →
    (get_or ranges n no_range).last < length cs → AreRangesBefore (n + 1) cs ranges
ranges-further n cs ranges before this = grind (arith, common_steps, cases_lt, get_or_from_slice_get)

-- the fault of a range, if those before it end at rows that are there, is that of all ranges
pub fault-of-range : (strings : List (List ℕ)) (IsWhole : Type 0) (text : Option (List ℕ)) (cs : List ℕ)
    (ranges : List RowRange) (n : ℕ) → n < length ranges → AreRangesBefore n cs ranges → (e : RowsError) →
    IsRangeFault strings IsWhole text cs (get_or ranges n no_range) e
    → IsRowsFault strings IsWhole text cs ranges e
fault-of-range strings IsWhole text cs ranges n within before (Stream failure) fault = fault
fault-of-range strings IsWhole text cs ranges n within before (NoRow row) fault = grind (arith, common_steps, slice_get-get_or)
fault-of-range strings IsWhole text cs ranges n within before (NoLine row) fault = grind (arith, common_steps, slice_get-get_or)
