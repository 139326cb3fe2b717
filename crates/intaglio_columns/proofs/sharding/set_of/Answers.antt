-- After the loop no list is left, so the identities that were pushed are those of all shards.
use Rattle.std.proofs.Common.{◌∙◌, ap, map}
use Rattle.intaglio_columns.proofs.Names.{set_of_shards}
use Rattle.intaglio_columns.proofs.Shared.{set-from}
use Rattle.intaglio_columns.proofs.sharding.set_of.Goals as goal

pub returns : goal.returns
returns c =
    c.of_shards.ensures ∙ ap set_of_shards c.deref.ensures.value
    ∙ set-from (λ ws. map (λ w. w.now) ws.items) c.args.lists.now c.args.kind c.loop-list.ids.items
    c.loop-list.list-index c.loop-list-test.false c.loop-list.invariant
