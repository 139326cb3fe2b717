-- The count only grows, so it stays at `u64::MAX` once it is there, as the smaller of both does.
use Rattle.std.proofs.Common.{ap, length, arith}
use Rattle.intaglio_frozen.proofs.Names.{sum_by_more, slice_get_within, get_or_from_slice_get}
use Rattle.intaglio_frozen.proofs.freezing.byte_count.Goals as goal

pub loop-i-preserved : goal.loop-i-preserved
loop-i-preserved g c =
    let ws = g.L.StringList.strings c.args.list.now in
    let i = c.loop-i.i in
    let w = c.string.result.now in
    let below = slice_get_within ws i w c.string.ensures in
    let more = sum_by_more length ws i w below in
    let at = ap length (get_or_from_slice_get ws i w w c.string.ensures) in
    omega (arith, more, at, c.loop-i.invariant, c.saturating_add-count.ensures)
