-- No text is stored twice in a valid table, so symbols of equal texts are the same.
use Rattle.std.proofs.lemmas.Grind.{common_steps}
use Rattle.std.proofs.Common.{arith}
use Rattle.example_interpreter.proofs.Spellings.{same-text}
use Rattle.example_interpreter.proofs.lexer.have_same_text.Goals as goal

pub returns : goal.returns
returns c = grind (arith, common_steps, same-text)
