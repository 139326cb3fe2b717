-- Interning keeps the texts of earlier symbols, so the names before stay, and the new symbol has this name.
use Rattle.std.proofs.Common.{◌≡◌, ◌∙◌, ap, ◌++◌, ◌∷◌, [], List, ℕ, rules}
use Rattle.example_interpreter.proofs.Shadowing.{declared-name}
use Rattle.example_interpreter.proofs.bindings.Bindings.declare.Goals as goal

pub returns-clause-declared : goal.returns-clause-declared
returns-clause-declared c =
    let added : c.push_reserved.new.self.items ≡ c.self.inside.declared.items ++ c.in_ok-symbol.symbol ∷ [] =
    search rules in
    declared-name c.self.inside.names.state c.get_or_intern.new.self.state c.self.inside.declared.items
    c.push_reserved.new.self.items c.in_ok-symbol.symbol c.args.name.now
    c.get_or_intern.ensures.interned.kept
    c.self.invariant added c.get_or_intern.ensures.valid c.in_ok-symbol.ensures.interned.found
    ∙ ap (λ (names : List (List ℕ)). names ++ c.args.name.now ∷ []) c.self.view_is
