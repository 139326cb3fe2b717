-- Where no symbol is too large, all are small enough.
use Rattle.std.proofs.Common.{◌≡◌, sym, refl, ℕ, ◌<◌, Bool, true, false, cond, nat_le, leb-false, List, [], ◌∷◌, Some, None, All, rules}
use Rattle.intaglio_columns.proofs.Names.{find, AllByRecursion, none-some, All-from_recursion, unknown}
use Rattle.intaglio_columns.proofs.Parts.{passed-on}
use Rattle.intaglio_columns.proofs.look_up.write_strings.Goals as goal

module _ (n : ℕ) where
  step : (b : Bool) (x : ℕ) (xs : List ℕ) → nat_le n x ≡ b →
      cond b (Some x) (find (λ y. nat_le n y) xs) ≡ None
      → (x < n) × (find (λ y. nat_le n y) xs ≡ None)
  step true x xs large none = absurd (none-some x (sym none))
  step false x xs small none = (leb-false n x small, none)

  each : (xs : List ℕ) → find (λ y. nat_le n y) xs ≡ None → AllByRecursion (λ x. x < n) xs
  each [] none = tt
  each (x ∷ xs) none = let at = step (nat_le n x) x xs refl none in (at.0, each xs at.1)

  all-below : (xs : List ℕ) → find (λ y. nat_le n y) xs ≡ None → All (λ x. x < n) xs
  all-below xs none = All-from_recursion (λ x. x < n) xs (each xs none)

pub strings_of-requires : goal.strings_of-requires
strings_of-requires g c =
    let none : unknown c.args.symbols.now (g.D.Dictionary.strings c.args.table.now) ≡ None = search rules in
    all-below _ _ none

pub returns-in_ok-write_output-in-None-clause-known : goal.returns-in_ok-write_output-in-None-clause-known
returns-in_ok-write_output-in-None-clause-known g c =
    let none : unknown c.args.symbols.now (g.D.Dictionary.strings c.args.table.now) ≡ None = search rules in
    all-below _ _ none

pub returns-in_err-write_output-in-None-clause-unknown :
    goal.returns-in_err-write_output-in-None-clause-unknown
returns-in_err-write_output-in-None-clause-unknown g c =
    let none : unknown c.args.symbols.now (g.D.Dictionary.strings c.args.table.now) ≡ None = search rules in
    λ whole. passed-on _ c.from_residual-in_err-write_output-in-None.result _
    c.from_residual-in_err-write_output-in-None.ensures.1
    (none, c.in_err-write_output-in-None.ensures.err)

pub returns-in_err-strings-in-None-clause-unknown : goal.returns-in_err-strings-in-None-clause-unknown
returns-in_err-strings-in-None-clause-unknown g c =
    let none : unknown c.args.symbols.now (g.D.Dictionary.strings c.args.table.now) ≡ None = search rules in
    λ whole. passed-on _ c.from_residual.result _ c.from_residual.ensures.1
    (rw (c.in_err-strings-in-None.ensures.err whole) (none, tt))
