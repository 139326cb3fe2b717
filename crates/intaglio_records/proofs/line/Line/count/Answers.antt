-- No entry has the tag 0 (`entry-tag`), and all places behind them have it. So the lowest bit of the mask is
-- at the number of entries, and there is one, since a line has more tags than entries.
use Rattle.intaglio_records.proofs.Names.{common_steps, bit_at, trailing_zeros, bit_at-trailing_zeros, cases_order}
use Rattle.std.proofs.Common.{◌≡◌, ◌<◌, ◌==◌, cond, length, arith, w64, ap, ◌∙◌}
use Rattle.intaglio_records.proofs.LineLemmas.{entry-tag}
use Rattle.intaglio_records.proofs.line.Line.count.Goals as goal

pub returns : goal.returns
returns c es next is =
    let m = c.equal.result in
    let here : bit_at m (length es) ≡ 1 =
    c.equal.ensures.bits (length es) (omega (arith, is.few)) ∙ ap (λ tag. cond (tag == 0) 1 0) (is.others (length es) (omega arith)) in
    let some : 0 < m = grind (arith, common_steps) in
    let lowest = bit_at-trailing_zeros w64 m some (omega arith) in
    grind (arith, common_steps, w64, entry-tag, cases_order (trailing_zeros w64 m) (length es), lowest.2 (length es), c.equal.ensures.bits)
