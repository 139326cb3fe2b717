-- The symbols of the strings so far are marked.
use Rattle.std.proofs.Common.{length, map, take}
use Rattle.intaglio_columns.proofs.Names.{AreMarked}
use Rattle.intaglio_columns.proofs.matching.mark_all.Given as goal

abbrev pub invariant-loop-string : goal.invariant-loop-string
invariant-loop-string g l =
    AreMarked (length l.initial.marks) (g.D.Dictionary.strings l.table) (g.D.Dictionary.is_whole l.table)
    (map (λ s. s.now) (take l.string-index l.strings)) l.marks
