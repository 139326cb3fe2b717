-- The list has the set of each reference so far, in order.
use Rattle.intaglio_c.proofs.Names.{◌≡◌, map, take, set_in}
use Rattle.intaglio_c.proofs.reference.sets_of.Given as goal

abbrev pub invariant-loop-one : goal.invariant-loop-one
invariant-loop-one l = l.sets.items ≡ map set_in (take l.one-index l.all)
