-- A text is stored in `right` at one symbol at most, and the list has it, so any other has another text.
use Rattle.std.proofs.lemmas.Grind.{common_steps}
use Rattle.std.proofs.Common.{arith, ◌≡◌, ◌∙◌}
use Rattle.example_records.proofs.SameText.{same-text}
use Rattle.example_records.proofs.join.have_same_text.Goals as goal

pub returns-in-Some : goal.returns-in-Some
returns-in-Some c = grind (arith, common_steps, same-text)

pub returns-in-None : goal.returns-in-None
returns-in-None c = grind (arith, common_steps, same-text)
