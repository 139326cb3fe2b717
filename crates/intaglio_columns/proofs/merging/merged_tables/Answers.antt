-- The clauses of `merge_tables` map each table to its strings. For frozen tables this is the identity.
use Rattle.std.proofs.Common.{◌≡◌, ◌∙◌, ap, map, subst}
use Rattle.intaglio_columns.proofs.Names.{map-id, union, AreMaps}
use Rattle.intaglio_columns.proofs.merging.merged_tables.Goals as goal

pub returns-in-Ok-clause-maps : goal.returns-in-Ok-clause-maps
returns-in-Ok-clause-maps g c =
    let tables = c.args.tables.now in
    let held = c.in-Ok.merged.table.state.contents in
    let maps = map (λ m. m.items) c.in-Ok.merged.maps.items in
    let same : map (λ t. t) tables ≡ tables = map-id tables in
    let are : AreMaps tables held maps = subst (λ t. AreMaps t held maps) same c.in-Ok.ensures.maps in
    let all : held ≡ union tables = c.in-Ok.ensures.union ∙ ap union same in
    subst (λ t. AreMaps tables t maps) all are
