-- The texts of the tokens so far, and then the rest, are the source.
use Rattle.std.proofs.Common.{◌≡◌, ◌<◌, ◌++◌, length}
use Rattle.std.specs.Prelude.{All}
use Rattle.intaglio.specs.Keys.{bytes_key}
use Rattle.intaglio.specs.Lookup.{Keeps}
use Rattle.example_interpreter.specs.Spelled.{spelled}
use Rattle.example_interpreter.proofs.lexer.lex.Given as goal

abbrev pub invariant-loop-rest : goal.invariant-loop-rest
invariant-loop-rest l = record {
  whole : spelled l.texts.state.contents l.tokens.items ++ l.rest ≡ l.source;
  issued : All (λ token. token.text < length l.texts.state.contents) l.tokens.items;
  kept : Keeps bytes_key l.initial.texts.state l.texts.state;
}

abbrev pub decreases-loop-rest : goal.decreases-loop-rest
decreases-loop-rest l = length l.rest
