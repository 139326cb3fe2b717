-- What was found of the lines so far: together with the lines that are left they are all lines.
use Rattle.std.proofs.Common.{◌≡◌, ℕ, List, ◌++◌, length}
use Rattle.intaglio_columns.proofs.Names.{lines_of, AreFound}
use Rattle.intaglio_columns.proofs.answer.look_up_lines.Given as goal

abbrev pub invariant-loop-rest : goal.invariant-loop-rest
invariant-loop-rest g l = (done : List (List ℕ))
    × AreFound (g.D.Dictionary.strings l.table) (g.D.Dictionary.is_whole l.table) done l.found.items
    × (done ++ lines_of l.rest ≡ lines_of l.input)

abbrev pub decreases-loop-rest : goal.decreases-loop-rest
decreases-loop-rest g l = length l.rest
