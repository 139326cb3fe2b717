-- The strings so far were put.
use Rattle.std.proofs.Common.{take}
use Rattle.intaglio_columns.proofs.Names.{flat_map, Appends, append_known, spelling_line}
use Rattle.intaglio_columns.proofs.strings.SelectionOutput.put_all.Given as goal

abbrev pub invariant-loop-string : goal.invariant-loop-string
invariant-loop-string g l = Appends (append_known (g.W.Write.contents l.initial.writer) l.initial.block.items)
    (append_known (g.W.Write.contents l.writer) l.block.items)
    (flat_map (λ string. spelling_line string.now) (take l.string-index l.self.strings.now))
