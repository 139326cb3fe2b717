-- In a valid table a name is found at one symbol, so its last declaration is the symbol's. A declared name is
-- always found, so one that isn't found has none.
use Rattle.std.proofs.Common.{sym}
use Rattle.example_interpreter.proofs.Shadowing.{last-name, undeclared}
use Rattle.example_interpreter.proofs.bindings.Bindings.resolve.Goals as goal

pub returns-in-None : goal.returns-in-None
returns-in-None c =
    rw (← c.self.view_is) (undeclared c.self.inside.names.state c.self.inside.declared.items c.args.name.now
    c.valid_law.ensures c.self.invariant (sym c.in-None.ensures.found))

pub returns-in-Some : goal.returns-in-Some
returns-in-Some c =
    rw (← c.self.view_is)
    (last-name c.self.inside.names.state c.self.inside.declared.items c.args.name.now c.valid_law.ensures
    c.self.invariant c.in-Some.symbol c.last_of.result (sym c.in-Some.ensures.found)
    (rw c.deref.ensures.value at c.last_of.ensures))
