-- The lines of the strings so far were put.
use Rattle.std.proofs.Common.{take}
use Rattle.intaglio_columns.proofs.Names.{flat_map, Appends, append_known, spelling_line}
use Rattle.intaglio_columns.proofs.strings.ListingOutput.put_all.Given as goal

abbrev pub invariant-loop-number : goal.invariant-loop-number
invariant-loop-number g l = Appends (append_known (g.W.Write.contents l.initial.writer) l.initial.block.items)
    (append_known (g.W.Write.contents l.writer) l.block.items)
    (flat_map spelling_line (take l.number (g.D.Dictionary.strings l.self.table.now)))
