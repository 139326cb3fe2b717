-- The lines of the symbols so far were put.
use Rattle.std.proofs.Common.{take}
use Rattle.intaglio_lines.proofs.Names.{flat_map, Appends, append_known, number_line}
use Rattle.intaglio_lines.proofs.encoding.put_symbols.Given as goal

abbrev pub invariant-loop-symbol : goal.invariant-loop-symbol
invariant-loop-symbol g l = Appends (append_known (g.W.Write.contents l.initial.writer) l.initial.block.items)
    (append_known (g.W.Write.contents l.writer) l.block.items)
    (flat_map number_line (take l.symbol-index l.symbols))
