-- The strings of the symbols so far.
use Rattle.std.proofs.Common.{◌≡◌, take}
use Rattle.intaglio_columns.proofs.Names.{flat_map, decoded, spelling_line}
use Rattle.intaglio_columns.proofs.strings.strings_of.Given as goal

abbrev pub invariant-loop-symbol : goal.invariant-loop-symbol
invariant-loop-symbol g l = flat_map (λ string. spelling_line string.now) l.strings.items
    ≡ decoded (take l.symbol-index l.symbols) (g.D.Dictionary.strings l.table)
