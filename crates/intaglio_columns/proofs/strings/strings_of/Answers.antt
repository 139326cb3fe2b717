-- What `decoded` reads at a symbol by position is what the dictionary returned, so the lines are the same.
use Rattle.std.proofs.Common.{[], ap, sym, rules, refl, slice_index_or}
use Rattle.intaglio_columns.proofs.Names.{get_or_from_slice_get, slice_get_read, spelling_line, take_all}
use Rattle.intaglio_columns.proofs.Listed.{same-next}
use Rattle.intaglio_columns.proofs.strings.strings_of.Goals as goal

pub loop-symbol-preserved : goal.loop-symbol-preserved
loop-symbol-preserved g c =
    let strings = g.D.Dictionary.strings c.args.table.now in
    let symbols = c.args.symbols.now in
    let symbol = c.symbol-item.result in
    let at =
    slice_get_read symbols _ c.loop-symbol.symbol-index symbol refl (search rules) c.symbol-item.is in
    let string = get_or_from_slice_get strings symbol c.in-Some.string.now [] c.in-Some.ensures.found in
    rw c.in-Ok.ensures.items
    (same-next symbols c.loop-symbol.symbol-index symbol at (λ s. spelling_line s.now)
    c.loop-symbol.strings.items c.in-Some.string
    (λ n. spelling_line (slice_index_or strings n [])) c.loop-symbol.invariant
    (ap spelling_line (sym string)))

pub returns-clause-lines : goal.returns-clause-lines
returns-clause-lines g c =
    rw (take_all c.loop-symbol.symbol-index c.args.symbols.now c.loop-symbol-test.false) at c.loop-symbol.invariant
