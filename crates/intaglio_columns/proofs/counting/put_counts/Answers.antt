-- The line of the next item follows those that were put, and after the last item they are all.
use Rattle.std.proofs.Common.{refl, []}
use Rattle.intaglio_columns.proofs.Names.{slice_get-get_or, take_all, count_line}
use Rattle.intaglio_columns.proofs.Listed.{appends-next}
use Rattle.intaglio_columns.proofs.counting.put_counts.Goals as goal

pub loop-count-preserved : goal.loop-count-preserved
loop-count-preserved g c =
    let xs = c.args.lines.now in
    appends-next xs c.loop-count.count-index _ (slice_get-get_or xs c.loop-count.count-index (0, record { ref_ptr = (0, 0); now = [] }) c.loop-count-test.true)
    (λ it. count_line it.0 it.1.now) _ _ _ _ refl c.loop-count.invariant c.in_ok-put_count.ensures

pub returns : goal.returns
returns g c = rw (take_all c.loop-count.count-index c.args.lines.now c.loop-count-test.false) at c.loop-count.invariant
