-- The lines of the ranges so far, which end at rows that are there.
use Rattle.std.proofs.Common.{◌≡◌, take}
use Rattle.intaglio_columns.proofs.Names.{flat_map, option_map, spelling_line, AreRangesBefore, row_lines}
use Rattle.intaglio_columns.specs.Layout.{codes}
use Rattle.intaglio_columns.proofs.rows.lines_of_rows.Given as goal

abbrev pub invariant-loop-range : goal.invariant-loop-range
invariant-loop-range g l = record {
  lines : flat_map (λ string. spelling_line string.now) l.lines.items
      ≡ row_lines (g.D.Dictionary.strings l.table) (option_map (λ t. t.now) l.missing) (codes l.column)
      (take l.range-index l.ranges);
  before : AreRangesBefore l.range-index (codes l.column) l.ranges;
}
