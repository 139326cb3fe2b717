-- A rank's line is stated by the lists of counts and strings, and the two calls return their items.
use Rattle.std.proofs.Common.{◌≡◌, ◌∙◌, ℕ, [], get_or, slice_get, Some, ap, sym}
use Rattle.intaglio_columns.proofs.Names.{get_or_from_slice_get, slice_get-get_or, count_line, rank_line}
use Rattle.intaglio_columns.proofs.Listed.{same-next}
use Rattle.intaglio_columns.proofs.counting.counted_strings.Goals as goal

pub loop-rank-preserved : goal.loop-rank-preserved
loop-rank-preserved g c =
    let strings = g.D.Dictionary.strings c.args.table.now in
    let counts = c.args.counts.now in
    let ordered = c.args.ordered.now in
    let i = c.loop-rank.rank-index in
    let none : ℕ × ℕ = (0, 0) in
    let rank : ℕ × ℕ = get_or ordered i none in
    let at : slice_get ordered i ≡ Some rank = slice_get-get_or ordered i none c.loop-rank-test.true in
    let string : get_or strings rank.1 [] ≡ c.in-Some.string.now =
    get_or_from_slice_get strings rank.1 c.in-Some.string.now [] (ap (slice_get strings) (sym c.new.ensures)
    ∙ c.in-Some.ensures.found) in
    let same : count_line c.count_of.result c.in-Some.string.now ≡ rank_line strings counts rank =
    ap (λ n. count_line n c.in-Some.string.now) c.count_of.ensures
    ∙ ap (count_line (get_or counts rank.1 0)) (sym string) in
    rw c.in-Ok.ensures.items
    (same-next ordered i rank at (λ it. count_line it.0 it.1.now) c.loop-rank.lines.items (
      c.count_of.result,
      c.in-Some.string,
    ) (rank_line strings counts)
    c.loop-rank.invariant same)
