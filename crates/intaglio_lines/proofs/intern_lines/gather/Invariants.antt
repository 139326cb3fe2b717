-- The forms so far, and the lines of what is left, are the lines of the input.
use Rattle.std.proofs.Common.{◌≡◌, ◌+◌, ◌≤◌, ◌++◌, length, map, not, vec_capacity}
use Rattle.intaglio_lines.proofs.Names.{position_or_len, lines_of}
use Rattle.intaglio_lines.proofs.intern_lines.gather.Given as goal

abbrev pub invariant-loop-line : goal.invariant-loop-line
invariant-loop-line g l = record {
  allowed : g.C.FromLine.allows l.rest;
  lines : lines_of l.input ≡ map g.C.Line.CopiedTo.form_spelling l.forms.items ++ lines_of l.rest;
  fit : position_or_len (λ x. not (g.C.FromLine.fits x)) (lines_of l.input) ≡ length l.forms.items
      + position_or_len (λ x. not (g.C.FromLine.fits x)) (lines_of l.rest);
  bytes : length l.forms.items + length l.rest ≤ length l.input;
  room : 64 ≤ vec_capacity l.forms;
}

abbrev pub decreases-loop-line : goal.decreases-loop-line
decreases-loop-line g l = length l.rest
