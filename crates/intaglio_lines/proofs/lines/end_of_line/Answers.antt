-- `memchr` finds the first byte 10, and `position` is of the same byte.
use Rattle.std.proofs.Common.{◌≡◌, ℕ, Bool, List, length, get_or, Option, None, Some, ◌==◌, arith}
use Rattle.intaglio_lines.proofs.Names.{common_steps, false_from_ne_true, position_or_len_is, position}
use Rattle.memchr.specs.Find.{IsFirstByte}
use Rattle.intaglio_lines.proofs.lines.end_of_line.Goals as goal

-- the place of the first byte that passes a test, or none if none does, is what `position` gives
first-byte : (p : ℕ → Bool) (xs : List ℕ) (r : Option ℕ) → IsFirstByte p xs r → r ≡ position p xs
first-byte p xs None nowhere =
    let at = position_or_len_is p xs (length xs) 0 (omega arith)
    (λ k l. false_from_ne_true (p (get_or xs k 0)) (nowhere k (omega arith) l)) (λ l. absurd (omega arith)) in
    grind (arith, at)
first-byte p xs (Some k) first =
    let at = position_or_len_is p xs k 0 (omega (arith, first.0.high))
    (λ j l. false_from_ne_true (p (get_or xs j 0)) (first.0.before j (omega arith) l)) (λ _. first.1) in
    grind (arith, at, first.0.high)

pub returns-clause-place : goal.returns-clause-place
returns-clause-place c = first-byte (λ b. b == 10) c.args.input.now c.memchr.result c.memchr.ensures
