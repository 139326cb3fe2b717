-- Earlier tokens keep their texts while more are interned, as their symbols were issued before. The lexeme
-- moves from the front of the rest to the end of what is spelled.
use Rattle.std.proofs.Common.{◌≡◌, ◌++◌, ◌∷◌, [], rules}
use Rattle.std.proofs.lemmas.List.{take-append-drop}
use Rattle.intaglio.specs.Keys.{bytes_key}
use Rattle.intaglio.specs.Lookup.{IsStored}
use Rattle.intaglio.proofs.CallerLaws.{keeps_then}
use Rattle.example_interpreter.specs.declared.token.Token.{Token}
use Rattle.example_interpreter.proofs.Spellings.{stored-text, stored-within, spelled-push, issued-push}
use Rattle.example_interpreter.proofs.lexer.lex.Goals as goal

pub loop-rest-preserved : goal.loop-rest-preserved
loop-rest-preserved c =
    let old = c.loop-rest.texts.state in
    let new = c.intern.new.self.state in
    let lexeme = c.split_at.result.0.now in
    let stored : IsStored bytes_key new (lexeme ∷ []) c.in_ok-text.text =
    rw c.from.ensures at c.in_ok-text.ensures.interned.stored in
    let token : Token = record { kind = c.kind_of-kind.result; text = c.in_ok-text.text } in
    let added : c.push_reserved.new.self.items ≡ c.loop-rest.tokens.items ++ token ∷ [] = search rules in
    let cut : lexeme ++ c.split_at.result.1.now ≡ c.loop-rest.rest.now =
    rw (c.split_at.ensures.front, c.split_at.ensures.back)
    (take-append-drop c.lexeme_len.result c.loop-rest.rest.now) in
    record {
      whole = spelled-push old new c.intern.ensures.interned.kept c.loop-rest.tokens.items
          c.push_reserved.new.self.items token lexeme c.split_at.result.1.now c.loop-rest.rest.now
          c.args.source.now c.loop-rest.invariant.issued added
          (stored-text new lexeme c.in_ok-text.text stored)
          cut c.loop-rest.invariant.whole;
      issued =
          issued-push old new c.intern.ensures.interned.kept c.loop-rest.tokens.items
          c.push_reserved.new.self.items token c.loop-rest.invariant.issued added
          (stored-within new lexeme c.in_ok-text.text stored);
      kept = keeps_then bytes_key c.args.texts.now.state old new c.loop-rest.invariant.kept
          c.intern.ensures.interned.kept;
    }
