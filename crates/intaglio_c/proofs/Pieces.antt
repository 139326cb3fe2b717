-- The strings of a batch by their position: how many there are, between which ends each stands, and that
-- ends which pass the test are in order and within the bytes.
use Rattle.intaglio_c.proofs.Names.{◌≡◌, ◌-◌, ◌<◌, ◌≤◌, ◌∷◌, common_steps, ℕ, zero, suc, true, List, [], length, take, drop, refl, ap, arith, Some, slice_get, get_or, are_ends, pieces}

-- the strings of a batch
pub pieces_length : (bytes : List ℕ) (start : ℕ) (ends : List ℕ) →
    length (pieces bytes start ends) ≡ length ends
pieces_length bytes start [] = refl
pieces_length bytes start (end ∷ ends) = ap suc (pieces_length bytes end ends)

-- each string of a batch is the bytes from the end before it, or from the start, to its own end
pub piece : (bytes : List ℕ) (start : ℕ) (ends : List ℕ) (i : ℕ) → i < length ends
    → slice_get (pieces bytes start ends) i
    ≡ Some (take (get_or ends i 0 - get_or (start ∷ ends) i 0) (drop (get_or (start ∷ ends) i 0) bytes))
piece bytes start [] i inside = absurd (omega (arith, inside))
piece bytes start (end ∷ ends) zero inside = refl
piece bytes start (end ∷ ends) (suc i) inside = piece bytes end ends i (omega (arith, inside))

-- each of the ends that pass the test is at least the one before it, or the start, and at most the size
pub in_order : (size start : ℕ) (ends : List ℕ) (i : ℕ) → are_ends size start ends ≡ true → i < length ends →
    (get_or (start ∷ ends) i 0 ≤ get_or ends i 0) × (get_or ends i 0 ≤ size)
in_order size start [] i good inside = absurd (omega (arith, inside))
in_order size start (end ∷ ends) zero good inside = grind (arith, common_steps)
in_order size start (end ∷ ends) (suc i) good inside =
    grind (arith, common_steps, in_order size end ends i)

pub ruleset pieces_steps = (pieces_length, piece, in_order)
