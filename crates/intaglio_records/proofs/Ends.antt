-- Strings between ends.
use Rattle.intaglio_records.proofs.Names.{common_steps, concat, drop_all, drop-drop, take-append-drop, drop-take, take-take, sum_by-cons, strings_from, AreEnds}
use Rattle.std.proofs.Common.{append_assoc, length-append, take_all, sym, ◌≡◌, ℕ, ◌+◌, ◌-◌, ◌<◌, ◌≤◌, suc, zero, List, [], ◌∷◌, ◌++◌, length, take, drop, get_or, slice_get, slice_range, Some, refl, ap, ◌∙◌, arith, length-drop, length-take-le, sum_by}

-- where the first string begins is within the bytes
pub ends-within : (at all : ℕ) (es : List ℕ) → AreEnds at all es → at ≤ all
ends-within at all [] h = omega (arith, h)
ends-within at all (e ∷ es) h = omega (arith, h.0, ends-within e all es h.1)

-- there are as many strings as ends
pub strings-length : (at : ℕ) (bytes es : List ℕ) → length (strings_from at bytes es) ≡ length es
strings-length at bytes [] = refl
strings-length at bytes (e ∷ es) = ap suc (strings-length e bytes es)

-- the strings after one is added
pub strings-push : (at : ℕ) (bytes es more : List ℕ) → AreEnds at (length bytes) es →
    strings_from at (bytes ++ more) (es ++ (length bytes + length more) ∷ []) ≡ strings_from at bytes es
    ++ more ∷ []
strings-push at bytes [] more h = grind (arith, common_steps)
strings-push at bytes (e ∷ es) more h = grind (arith, common_steps, ends-within e (length bytes) es h.1, strings-push e bytes es more h.1)

-- if bytes are added, the ends with the new length behind them are ends of all bytes
pub ends-push : (at all more : ℕ) (es : List ℕ) → AreEnds at all es →
    AreEnds at (all + more) (es ++ (all + more) ∷ [])
ends-push at all more [] h = (omega (arith, h), refl)
ends-push at all more (e ∷ es) h = (h.0, ends-push e all more es h.1)

-- where a string begins and ends
pub ends-at : (at all : ℕ) (es : List ℕ) (i : ℕ) → AreEnds at all es → i < length es →
    (get_or (at ∷ es) i 0 ≤ get_or es i 0) × (get_or es i 0 ≤ all)
ends-at at all [] i h l = absurd (omega arith)
ends-at at all (e ∷ es) zero h l = (h.0, ends-within e all es h.1)
ends-at at all (e ∷ es) (suc i) h l = ends-at e all es i h.1 (omega arith)

-- the beginning is at or before each end
pub at-below : (at all : ℕ) (es : List ℕ) (n : ℕ) → AreEnds at all es →
    n ≤ length es → at ≤ get_or (at ∷ es) n 0
at-below at all es zero h l = omega arith
at-below at all [] (suc n) h l = absurd (omega arith)
at-below at all (e ∷ es) (suc n) h l = omega (arith, h.0, at-below e all es n h.1 (omega arith))

-- string i is the range from the end before it, or from the beginning if it is the first, to end i
pub strings-at : (at : ℕ) (bytes es : List ℕ) (i : ℕ) → i < length es →
    slice_get (strings_from at bytes es) i ≡ Some (slice_range bytes (get_or (at ∷ es) i 0) (get_or es i 0))
strings-at at bytes [] i l = absurd (omega arith)
strings-at at bytes (e ∷ es) zero l = refl
strings-at at bytes (e ∷ es) (suc i) l = strings-at e bytes es i (omega arith)

-- the first n strings are those of the first n ends, in any front of the bytes that reaches the last of these
pub strings-take : (at all : ℕ) (bytes es : List ℕ) (n m : ℕ) → AreEnds at all es → n ≤ length es →
    get_or (at ∷ es) n 0 ≤ m →
    strings_from at (take m bytes) (take n es) ≡ take n (strings_from at bytes es)
strings-take at all bytes es zero m h l e = refl
strings-take at all bytes [] (suc n) m h l e = refl
strings-take at all bytes (x ∷ es) (suc n) m h l e =
    grind (arith, common_steps, drop-take at (m - at) bytes, take-take (x - at) (m - at) (drop at bytes), at-below x all es n h.1 (omega arith), strings-take x all bytes es n m h.1 (omega arith) e)

-- the first n ends are ends of the bytes up to the last of them
pub ends-take : (at all : ℕ) (es : List ℕ) (n : ℕ) → AreEnds at all es → n ≤ length es →
    AreEnds at (get_or (at ∷ es) n 0) (take n es)
ends-take at all es zero h l = refl
ends-take at all [] (suc n) h l = absurd (omega arith)
ends-take at all (x ∷ es) (suc n) h l = (h.0, ends-take x all es n h.1 (omega arith))

-- no string begins behind the bytes
pub starts-within : (at all : ℕ) (es : List ℕ) (n : ℕ) → AreEnds at all es → n ≤ length es →
    get_or (at ∷ es) n 0 ≤ all
starts-within at all es zero h l = ends-within at all es h
starts-within at all [] (suc n) h l = absurd (omega arith)
starts-within at all (e ∷ es) (suc n) h l = starts-within e all es n h.1 (omega arith)

-- the lengths of all strings together
pub sum-lengths : (at : ℕ) (bytes es : List ℕ) →
    AreEnds at (length bytes) es → at + sum_by length (strings_from at bytes es) ≡ length bytes
sum-lengths at bytes [] h = omega (arith, h)
sum-lengths at bytes (e ∷ es) h = grind (arith, common_steps, sum_by-cons, length-take-le, length-drop, ends-within e (length bytes) es h.1, sum-lengths e bytes es h.1)

-- a string begins behind the lengths of those before it
pub start-is : (at : ℕ) (bytes es : List ℕ) (i : ℕ) → AreEnds at (length bytes) es → i ≤ length es →
    get_or (at ∷ es) i 0 ≡ at + sum_by length (take i (strings_from at bytes es))
start-is at bytes es zero h l = omega arith
start-is at bytes [] (suc i) h l = absurd (omega (arith, l))
start-is at bytes (e ∷ es) (suc i) h l = grind (arith, common_steps, sum_by-cons, length-take-le, length-drop, ends-within e (length bytes) es h.1, start-is e bytes es i h.1 (omega (arith, l)))

-- the room for bytes in total is the buffer's capacity
pub byte_room-is : (capacity : ℕ) (bytes es : List ℕ) → AreEnds 0 (length bytes) es → length bytes ≤ capacity
    → sum_by length (strings_from 0 bytes es) + (capacity - length bytes) ≡ capacity
byte_room-is capacity bytes es h within = omega (arith, sum-lengths 0 bytes es h)

-- all strings, one behind the other, are the bytes from the beginning on
pub concat-strings : (at : ℕ) (bytes es : List ℕ) → AreEnds at (length bytes) es →
    concat (strings_from at bytes es) ≡ drop at bytes
concat-strings at bytes [] h = sym (drop_all at bytes (omega (arith, h)))
concat-strings at bytes (e ∷ es) h = grind (arith, common_steps, concat-strings e bytes es h.1, take-append-drop (e - at) (drop at bytes), drop-drop (e - at) at bytes)

-- what the proofs of calls of a buffer use
pub ruleset buffer_rules = (common_steps, strings-length, ends-at, strings-at, byte_room-is, start-is, append_assoc, length-append, ends-push, strings-push, starts-within, length-take-le, ends-take, strings-take, take_all, sum-lengths, concat-strings)
