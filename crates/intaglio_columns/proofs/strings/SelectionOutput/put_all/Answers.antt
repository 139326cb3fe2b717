-- The line of the next item follows those that were put, and after the last item they are all.
use Rattle.std.proofs.Common.{refl, []}
use Rattle.intaglio_columns.proofs.Names.{slice_get-get_or, take_all, spelling_line}
use Rattle.intaglio_columns.proofs.Listed.{appends-next}
use Rattle.intaglio_columns.proofs.strings.SelectionOutput.put_all.Goals as goal

pub loop-string-preserved : goal.loop-string-preserved
loop-string-preserved g c =
    let xs = c.args.self.now.strings.now in
    appends-next xs c.loop-string.string-index _ (slice_get-get_or xs c.loop-string.string-index (record { ref_ptr = (0, 0); now = [] }) c.loop-string-test.true)
    (λ string. spelling_line string.now) _ _ _ _ refl c.loop-string.invariant c.in_ok-put_line.ensures.put

pub returns : goal.returns
returns g c = rw (take_all c.loop-string.string-index c.args.self.now.strings.now c.loop-string-test.false) at c.loop-string.invariant
