-- What was read so far stands in the list, in order.
use Rattle.intaglio_lines.proofs.Names.{Consumes}
use Rattle.intaglio_lines.proofs.read.read_all.Given as goal

abbrev pub invariant-loop : goal.invariant-loop
invariant-loop g l =
    Consumes (g.R.Read.remaining l.initial.reader) (g.R.Read.remaining l.reader) l.bytes.items
