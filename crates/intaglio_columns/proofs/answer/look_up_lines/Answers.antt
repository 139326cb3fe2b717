-- Each pass moves one line from those that are left to those that are done, so together these stay the lines
-- of the input. That one look-up is right is what the two clauses of `symbol` say.
use Rattle.std.proofs.Common.{◌∙◌, ◌++◌, [], ◌∷◌, sym, ap, append_assoc}
use Rattle.intaglio_columns.proofs.Names.{lines_of}
use Rattle.intaglio_columns.proofs.Found.{found-next}
use Rattle.intaglio_columns.proofs.answer.look_up_lines.Goals as goal

pub loop-rest-preserved : goal.loop-rest-preserved
loop-rest-preserved g c =
    let strings = g.D.Dictionary.strings c.args.table.now in
    let whole = g.D.Dictionary.is_whole c.args.table.now in
    let line = c.first_line.result.0.now in
    let done = c.loop-rest.invariant in
    let next = found-next strings whole done.0 c.loop-rest.found.items line c.symbol.result done.1
    (c.symbol.ensures.found, c.symbol.ensures.whole) in (
      done.0 ++ line ∷ [],
      rw c.in_ok-push.ensures.items next,
      append_assoc done.0 (line ∷ []) (lines_of c.first_line.result.1.now)
          ∙ ap (λ t. done.0 ++ t) (sym c.first_line.ensures.lines) ∙ done.2,
    )
