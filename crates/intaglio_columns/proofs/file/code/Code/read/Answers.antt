-- The number at the position, once widened, is the code there.
use Rattle.std.proofs.Common.{sym, ◌∙◌}
use Rattle.intaglio_columns.proofs.CodesInFile.{code-is, widened-greatest, widened-other}
use Rattle.intaglio_columns.proofs.file.code.Code.read.Goals as goal

pub returns-then-code-greatest : goal.returns-then-code-greatest
returns-then-code-greatest g c =
    let w = g.Self.Code.width in
    let code = c.number-code.result in
    code-is c.args.bytes.now w c.args.at _ code (c.number-code.ensures.number ∙ c.at.ensures)
    (widened-greatest w code (c.if-code-greatest.true ∙ c.greatest.ensures))

pub returns-else-code-greatest : goal.returns-else-code-greatest
returns-else-code-greatest g c =
    let w = g.Self.Code.width in
    let code = c.number-code.result in
    code-is c.args.bytes.now w c.args.at code code (c.number-code.ensures.number ∙ c.at.ensures)
    (widened-other w code (λ e. c.if-code-greatest.false (e ∙ sym c.greatest.ensures)))
