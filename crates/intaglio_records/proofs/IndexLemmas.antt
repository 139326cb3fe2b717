-- Indexes over records.
use Rattle.intaglio_records.proofs.Names.{common_steps}
use Rattle.std.proofs.Common.{◌≡◌, ℕ, ◌-◌, ◌^◌, ◌≤◌, List, [], ◌∷◌, length, map, drop, get_or, refl, ap, arith}
use Rattle.intaglio_records.specs.declared.index.RecordIndex.{RecordIndex}
use Rattle.intaglio_records.specs.Index.{IsOver}

-- an index stays over records that have less room
pub over-less : (xs : List (ℕ × List ℕ)) (room less : ℕ) (index : RecordIndex) → IsOver xs room index →
    less ≤ room
    → IsOver xs less index
over-less xs room less index is l = grind (arith, common_steps)

-- and over records with other room, if four bytes reach all of it
pub over-short : (xs : List (ℕ × List ℕ)) (room other : ℕ) (index : RecordIndex) → IsOver xs room index
    → other ≤ 2 ^ 32 - 1 → IsOver xs other index
over-short xs room other index is l = grind (arith, common_steps)

-- the same, where the strings and the room are said in other words
pub over-same : (xs ys : List (ℕ × List ℕ)) (room same : ℕ) (index : RecordIndex) → xs ≡ ys → room ≡ same
    → IsOver xs room index
    → IsOver ys same index
over-same xs ys room same index e f is = rw (← e, ← f) is

-- pairs are the same if their hashes and their strings are
pub same-pairs : (xs ys : List (ℕ × List ℕ)) →
    map (λ (p : ℕ × List ℕ). p.0) xs ≡ map (λ (p : ℕ × List ℕ). p.0) ys
    → map (λ (p : ℕ × List ℕ). p.1) xs ≡ map (λ (p : ℕ × List ℕ). p.1) ys → xs ≡ ys
same-pairs [] [] e f = refl
same-pairs [] (y ∷ ys) e f = absurd (omega (arith, ap length e))
same-pairs (x ∷ xs) [] e f = absurd (omega (arith, ap length e))
same-pairs (x ∷ xs) (y ∷ ys) e f = grind (arith, common_steps, ap (λ hs. get_or hs 0 0) e, ap (λ ss. get_or ss 0 []) f, same-pairs xs ys (ap (drop 1) e) (ap (drop 1) f))
