-- The lines of the spellings so far were put.
use Rattle.std.proofs.Common.{take, map}
use Rattle.intaglio_lines.proofs.Names.{flat_map, Appends, append_known, spelling_line}
use Rattle.intaglio_lines.proofs.encoding.put_spellings.Given as goal

abbrev pub invariant-loop-place : goal.invariant-loop-place
invariant-loop-place g l = Appends (append_known (g.W.Write.contents l.initial.writer) l.initial.block.items)
    (append_known (g.W.Write.contents l.writer) l.block.items)
    (flat_map spelling_line (map g.L.Content.Content.spelling (take l.place (g.L.Store.contents l.contents))))
