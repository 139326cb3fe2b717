-- Numbers beside strings, such as hashes that were computed ahead.
use Rattle.std.specs.Prelude.{ℕ, List, [], ◌∷◌}

-- P holds of each string and the number at its place, as far as both lists go
abbrev pub AreFirst : (List ℕ → ℕ → Type 0) → List (List ℕ) → List ℕ → Type 0
AreFirst P strings [] = Unit {0}
AreFirst P [] (n ∷ ns) = Unit {0}
AreFirst P (string ∷ strings) (n ∷ ns) = P string n × AreFirst P strings ns
