-- What the shards so far are.
use Rattle.std.proofs.Common.{◌≡◌, map, take}
use Rattle.intaglio_columns.proofs.Names.{id_of}
use Rattle.intaglio_columns.proofs.sharding.set_of.Given as goal

abbrev pub invariant-loop-list : goal.invariant-loop-list
invariant-loop-list l =
    l.ids.items ≡ map (λ ws. id_of l.kind (map (λ w. w.now) ws.items)) (take l.list-index l.lists)
