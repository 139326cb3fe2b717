-- The line of the next item follows those that were put, and after the last item they are all.
use Rattle.std.proofs.Common.{refl, rules}
use Rattle.intaglio_columns.proofs.Names.{slice_get_read, take_all, answer_line}
use Rattle.intaglio_columns.proofs.Listed.{appends-next}
use Rattle.intaglio_columns.proofs.answer.AnswersOutput.put_all.Goals as goal

pub loop-found-preserved : goal.loop-found-preserved
loop-found-preserved g c =
    let xs = c.args.self.now.found.now in
    let at = slice_get_read xs _ c.loop-found.found-index c.found-item.result refl (search rules) c.found-item.is in
    appends-next xs c.loop-found.found-index c.found-item.result at answer_line _ _ _ _ refl c.loop-found.invariant
    c.in_ok-put_answer.ensures

pub returns : goal.returns
returns g c = rw (take_all c.loop-found.found-index c.args.self.now.found.now c.loop-found-test.false) at c.loop-found.invariant
