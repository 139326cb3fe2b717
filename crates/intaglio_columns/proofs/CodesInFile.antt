-- Codes that follow each other, and where they stand.
use Rattle.std.proofs.Common.{◌≡◌, ◌≢◌, cond, sym, ap, eq-eqb, ℕ, ◌+◌, ◌*◌, ◌<◌, ◌≤◌, ◌==◌, not, nat_le, arith, ◌∙◌, zero, suc, List, length, get_or, slice_get, Some, refl}
use Rattle.intaglio_columns.proofs.Names.{ne_eqb, nat_tests, is_unknown, widened, codes_at, rows, width, bytes_of, greatest, missing, Width, One, Two, Four, common_steps, get_or_from_slice_get, slice_get-get_or, number}
use Rattle.intaglio_columns.specs.Layout.{code_at, codes}

-- the code of a row ends where the rows do, or before
pub row-fits : (w : Width) (row rows : ℕ) → row < rows → bytes_of w * row + bytes_of w ≤ bytes_of w * rows
row-fits One row rows l = omega arith
row-fits Two row rows l = omega arith
row-fits Four row rows l = omega arith

-- two codes of a width are equal if they are as those of four bytes
pub same-widened : (w : Width) (a b : ℕ) → a ≤ greatest w → b ≤ greatest w →
    (a == b) ≡ (widened w a == widened w b)
same-widened One a b la lb = grind (arith, nat_tests)
same-widened Two a b la lb = grind (arith, nat_tests)
same-widened Four a b la lb = grind (arith, nat_tests)

-- the greatest is the missing one, and any other is itself
pub widened-greatest : (w : Width) (a : ℕ) → a ≡ greatest w → missing ≡ widened w a
widened-greatest w a e = sym (ap (λ b. cond b missing a) (eq-eqb a (greatest w) e))

-- a code other than the greatest of its width stays itself when it is widened
pub widened-other : (w : Width) (a : ℕ) → a ≢ greatest w → a ≡ widened w a
widened-other w a e = sym (ap (λ b. cond b missing a) (ne_eqb a (greatest w) e))

-- a code is neither that of one of n strings nor the missing one if it isn't less than n, nor the greatest
pub unknown-above : (w : Width) (n a : ℕ) → a ≤ greatest w → n ≤ a →
    not (a == greatest w) ≡ is_unknown n (widened w a)
unknown-above One n a l m = grind (arith, nat_tests)
unknown-above Two n a l m = grind (arith, nat_tests)
unknown-above Four n a l m = grind (arith, nat_tests)

-- if a code of a width is less than n, the comparison with n says whether it is unknown once widened
pub unknown-below : (w : Width) (n a : ℕ) → a ≤ greatest w → a < n → nat_le n a ≡ is_unknown n (widened w a)
unknown-below One n a l m = grind (arith, nat_tests)
unknown-below Two n a l m = grind (arith, nat_tests)
unknown-below Four n a l m = grind (arith, nat_tests)

-- the list of n codes that follow each other in bytes has n items
pub codes-length : (bs : List ℕ) (w : Width) (at n : ℕ) → length (codes_at bs w at n) ≡ n
codes-length bs w at zero = refl
codes-length bs w at (suc n) = ap suc (codes-length bs w (at + bytes_of w) n)

-- of n codes that follow each other in bytes, the one at position i stands i widths behind the first
pub codes-get : (bs : List ℕ) (w : Width) (at n i : ℕ) → i < n →
    get_or (codes_at bs w at n) i 0 ≡ code_at bs w (at + bytes_of w * i)
codes-get bs w at zero i l = absurd (omega arith)
codes-get bs w at (suc n) zero l = ap (code_at bs w) (omega arith)
codes-get bs w at (suc n) (suc i) l = codes-get bs w (at + bytes_of w) n i (omega arith)
    ∙ ap (code_at bs w) (omega arith)

-- all codes of a column
pub all-length : (bs : List ℕ) → length (codes bs) ≡ rows bs
unfolding codes
all-length bs = codes-length bs (width bs) 128 (rows bs)

-- the code of a row stands as many widths behind the header as there are rows before it
pub all-get : (bs : List ℕ) (i : ℕ) → i < rows bs →
    slice_get (codes bs) i ≡ Some (code_at bs (width bs) (128 + bytes_of (width bs) * i))
unfolding codes
all-get bs i l =
    let read = codes-get bs (width bs) 128 (rows bs) i l in
    slice_get-get_or (codes bs) i 0 (omega (arith, l, all-length bs)) ∙ ap Some read

-- a code that was read
pub read-get : (bs : List ℕ) (w : Width) (row size code : ℕ) → w ≡ width bs → row < rows bs →
    size ≡ bytes_of w → code ≡ code_at bs w (128 + size * row) → slice_get (codes bs) row ≡ Some code
read-get bs w row size code ew l es e = grind (arith, common_steps, all-get)

-- the same, where a row without a code reads as 0
pub read-or : (bs : List ℕ) (w : Width) (row size : ℕ) → w ≡ width bs → row < rows bs → size ≡ bytes_of w →
    code_at bs w (128 + size * row) ≡ get_or (codes bs) row 0
read-or bs w row size ew l es =
    sym (get_or_from_slice_get (codes bs) row (code_at bs w (128 + size * row)) 0
    (read-get bs w row size (code_at bs w (128 + size * row)) ew l es refl))

-- the number at a position, once widened, is the code there
pub code-is : (bs : List ℕ) (w : Width) (at code read : ℕ) → read ≡ number bs at 0 (bytes_of w) →
    code ≡ widened w read → code ≡ code_at bs w at
unfolding code_at
code-is bs w at code read same e = e ∙ ap (widened w) same
