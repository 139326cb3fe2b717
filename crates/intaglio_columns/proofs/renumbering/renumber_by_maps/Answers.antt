-- All follows from `Meet`: the maps have a source and can be joined, they lead to a dictionary that can have
-- the column's source, and the codes keep their lines.
use Rattle.std.proofs.Common.{◌≡◌, ◌∙◌, ap, subst, sym, ℕ, List, [], ◌∷◌, get_or, arith}
use Rattle.intaglio_columns.specs.Layout.{codes, hash0, hash1, kind, shards}
use Rattle.intaglio_columns.proofs.Names.{All, renumber, KeepsLines, LeadAlike}
use Rattle.intaglio_columns.proofs.Agreed.{are-maps, fits-first, keeps}
use Rattle.intaglio_columns.proofs.renumbering.renumber_by_maps.Goals as goal

pub join_maps-requires-clause-maps : goal.join_maps-requires-clause-maps
join_maps-requires-clause-maps c =
    are-maps c.args.column.now c.args.maps.now c.requires.column c.in_ok-count.ensures.meet c.requires.maps

pub sourced_column_bytes-requires : goal.sourced_column_bytes-requires
sourced_column_bytes-requires c =
    let fit = fits-first c.args.column.now c.args.maps.now c.requires.column c.in_ok-count.ensures.meet
    c.requires.maps c.index-maps-0.result c.index-maps-0.is in
    rw (c.header-into.ensures.shards, c.header.ensures.source) fit

-- bytes that lead where the first map leads do so as all maps
lead-as-all : (bytes : List ℕ) (maps : List (List ℕ)) (first : List ℕ) → first ≡ get_or maps 0 first →
    LeadAlike bytes first → All (LeadAlike (get_or maps 0 [])) maps → All (LeadAlike bytes) maps
lead-as-all bytes [] first is alike to = λ i d within. absurd (omega (arith, within))
lead-as-all bytes (m ∷ maps) first is alike to = λ i d within. let there = to i d within in record {
  kind = alike.kind ∙ ap kind is ∙ there.kind;
  hash0 = alike.hash0 ∙ ap hash0 is ∙ there.hash0;
  hash1 = alike.hash1 ∙ ap hash1 is ∙ there.hash1;
  shards = alike.shards ∙ ap shards is ∙ there.shards;
}

pub join_maps-requires-clause-few : goal.join_maps-requires-clause-few
join_maps-requires-clause-few c = c.in_ok-count.ensures.meet.few

pub returns-in-Ok-sourced_column_bytes-clause-column : goal.returns-in-Ok-sourced_column_bytes-clause-column
returns-in-Ok-sourced_column_bytes-clause-column c = c.in-Ok-sourced_column_bytes.ensures.column

pub returns-in-Ok-sourced_column_bytes-clause-to : goal.returns-in-Ok-sourced_column_bytes-clause-to
returns-in-Ok-sourced_column_bytes-clause-to c =
    let made = c.in-Ok-sourced_column_bytes.ensures.header in
    let into = c.header-into.ensures in
    lead-as-all _ c.args.maps.now c.index-maps-0.result c.index-maps-0.is (record {
      kind = sym made.id.kind ∙ into.id.kind;
      hash0 = sym made.id.hash0 ∙ into.id.hash0;
      hash1 = sym made.id.hash1 ∙ into.id.hash1;
      shards = sym made.shards ∙ into.shards;
    }) c.in_ok-count.ensures.meet.to

pub returns-in-Ok-sourced_column_bytes-clause-count : goal.returns-in-Ok-sourced_column_bytes-clause-count
returns-in-Ok-sourced_column_bytes-clause-count c =
    sym c.in-Ok-sourced_column_bytes.ensures.header.id.count ∙ c.in_ok-count.ensures.count

pub returns-in-Ok-sourced_column_bytes-clause-meet : goal.returns-in-Ok-sourced_column_bytes-clause-meet
returns-in-Ok-sourced_column_bytes-clause-meet c = c.in_ok-count.ensures.meet

pub returns-in-Ok-sourced_column_bytes-clause-codes : goal.returns-in-Ok-sourced_column_bytes-clause-codes
returns-in-Ok-sourced_column_bytes-clause-codes c =
    c.in-Ok-sourced_column_bytes.ensures.codes
    ∙ ap (λ t. renumber t (codes c.args.column.now)) (c.deref.ensures.value ∙ c.in-Ok.ensures.joined)

pub returns-in-Ok-sourced_column_bytes-clause-lines : goal.returns-in-Ok-sourced_column_bytes-clause-lines
returns-in-Ok-sourced_column_bytes-clause-lines c =
    subst (KeepsLines c.args.maps.now (codes c.args.column.now))
    (sym (returns-in-Ok-sourced_column_bytes-clause-codes c))
    (keeps c.args.column.now c.args.maps.now c.requires.column c.in_ok-count.ensures.meet c.requires.maps)
