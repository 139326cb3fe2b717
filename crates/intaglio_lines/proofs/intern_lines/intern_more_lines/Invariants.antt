-- What the lines taken so far gave, and what the rest will give, is what all lines give.
use Rattle.std.proofs.Common.{◌≡◌, ◌+◌, ◌≤◌, ◌++◌, length, map, not}
use Rattle.intaglio_lines.proofs.Names.{position_or_len, lines_of}
use Rattle.intaglio_interner.specs.Issue.{issue_from, interned_all}
use Rattle.intaglio_lines.proofs.intern_lines.intern_more_lines.Given as goal

abbrev pub invariant-loop-rest : goal.invariant-loop-rest
invariant-loop-rest g l =
    let key = g.T.Content.Content.key_of in
    let old = map g.T.Content.Content.spelling (g.T.BaseInterner.state l.initial.table).contents in
    let new = map g.T.Content.Content.spelling (g.T.BaseInterner.state l.table).contents in
    record {
      allowed : g.T.Content.FromLine.allows l.rest;
      symbols : l.initial.symbols.items ++ issue_from key old (lines_of l.input)
          ≡ l.symbols.items ++ issue_from key new (lines_of l.rest);
      held : interned_all key old (lines_of l.input) ≡ interned_all key new (lines_of l.rest);
      limit : (g.T.BaseInterner.state l.table).limit ≡ (g.T.BaseInterner.state l.initial.table).limit;
      fit : position_or_len (λ x. not (g.T.Content.FromLine.fits x)) (lines_of l.input)
          ≡ l.number + position_or_len (λ x. not (g.T.Content.FromLine.fits x)) (lines_of l.rest);
      count : length (lines_of l.input) ≡ l.number + length (lines_of l.rest);
      room : l.number + length l.rest ≤ length l.input;
    }

abbrev pub decreases-loop-rest : goal.decreases-loop-rest
decreases-loop-rest g l = length l.rest
