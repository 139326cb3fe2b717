-- The string that is marked so far is the only one.
use Rattle.intaglio_columns.proofs.Marked.{IsOnly}
use Rattle.intaglio_columns.proofs.file.filter.RowFilter.only_code.Given as goal

abbrev pub invariant-loop-symbol : goal.invariant-loop-symbol
invariant-loop-symbol l = IsOnly l.self.strings.items l.symbol l.only
