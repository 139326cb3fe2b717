-- The answers of the lines so far were put.
use Rattle.std.proofs.Common.{take}
use Rattle.intaglio_columns.proofs.Names.{flat_map, Appends, append_known, answer_line}
use Rattle.intaglio_columns.proofs.answer.AnswersOutput.put_all.Given as goal

abbrev pub invariant-loop-found : goal.invariant-loop-found
invariant-loop-found g l = Appends (append_known (g.W.Write.contents l.initial.writer) l.initial.block.items)
    (append_known (g.W.Write.contents l.writer) l.block.items)
    (flat_map answer_line (take l.found-index l.self.found.now))
