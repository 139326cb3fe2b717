-- The names declared so far left the others as they were.
use Rattle.intaglio.specs.Keys.{str_key}
use Rattle.intaglio.specs.Lookup.{Keeps}
use Rattle.example_interpreter.proofs.scopes.declare.Given as goal

abbrev pub invariant-loop-name : goal.invariant-loop-name
invariant-loop-name l = Keeps str_key l.initial.names.state l.names.state
