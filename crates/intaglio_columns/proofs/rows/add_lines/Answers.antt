-- The range's codes begin at its first row, so the code of a row is item `row - first` of them.
use Rattle.std.proofs.Common.{◌≡◌, ◌∙◌, ◌+◌, ◌-◌, drop, slice_get, ap, sym, arith}
use Rattle.intaglio_columns.proofs.Names.{option_map, spelling_line, code_line}
use Rattle.intaglio_columns.specs.Layout.{codes}
use Rattle.intaglio_columns.proofs.Overlaid.{read-behind}
use Rattle.intaglio_columns.proofs.Ranged.{after-next}
use Rattle.intaglio_columns.proofs.rows.add_lines.Goals as goal

pub loop-row-preserved : goal.loop-row-preserved
loop-row-preserved g c =
    let line = code_line (g.D.Dictionary.strings c.args.table.now) (option_map (λ t. t.now) c.args.missing) in
    let cs = codes c.args.column.now in
    let first = c.args.range.first in
    let row = c.loop-row.row in
    let code = c.unwrap-code.result in
    let place : first + (row - first) ≡ row = omega (arith, c.loop-row.auto.row) in
    let next : row + 1 - first ≡ row - first + 1 = omega (arith, c.loop-row.auto.row) in
    let at = read-behind cs first (row - first) code (ap (slice_get cs) place ∙ sym c.code.ensures
    ∙ c.unwrap-code.ensures) in
    record {
      lines = rw (c.in-Ok.ensures.items, next)
          (after-next (drop first cs) (row - first) code at (λ string. spelling_line string.now)
          c.loop-row.lines.items c.args.lines.now.items c.in-Some.line
          line c.loop-row.invariant.lines (ap spelling_line c.in-Some.ensures.line));
      within = omega (arith, c.loop-row-test.true, c.loop-row.auto.row);
    }

pub returns-clause-lines : goal.returns-clause-lines
returns-clause-lines g c =
    let same : c.loop-row.row - c.args.range.first ≡ c.args.range.last + 1 - c.args.range.first =
    omega (arith, c.loop-row.invariant.within, c.loop-row-test.false) in
    rw same at c.loop-row.invariant.lines
