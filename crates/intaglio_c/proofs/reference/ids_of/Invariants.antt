-- The list has the identity of each reference so far, in order.
use Rattle.intaglio_c.proofs.Names.{◌≡◌, map, take, own_id}
use Rattle.intaglio_c.proofs.reference.ids_of.Given as goal

abbrev pub invariant-loop-one : goal.invariant-loop-one
invariant-loop-one l = l.ids.items ≡ map own_id (take l.one-index l.all)
