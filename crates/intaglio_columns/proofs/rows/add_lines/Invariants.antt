-- The lines of the range so far, and that no row behind its last one was reached.
use Rattle.std.proofs.Common.{◌≡◌, ◌++◌, ◌-◌, ◌+◌, ◌≤◌, drop, take}
use Rattle.intaglio_columns.proofs.Names.{flat_map, option_map, spelling_line, code_line}
use Rattle.intaglio_columns.specs.Layout.{codes}
use Rattle.intaglio_columns.proofs.rows.add_lines.Given as goal

abbrev pub invariant-loop-row : goal.invariant-loop-row
invariant-loop-row g l = record {
  lines : flat_map (λ string. spelling_line string.now) l.lines.items
      ≡ flat_map (λ string. spelling_line string.now) l.initial.lines.items
      ++ flat_map (code_line (g.D.Dictionary.strings l.table) (option_map (λ t. t.now) l.missing))
      (take (l.row - l.fn.range.first) (drop l.fn.range.first (codes l.column)));
  within : l.row - l.fn.range.first ≤ l.fn.range.last + 1 - l.fn.range.first;
}
