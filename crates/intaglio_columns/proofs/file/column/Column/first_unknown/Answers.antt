-- The test compares codes with the header's count, which is the number of strings. So a row that it finds is
-- the first with no string, and if it finds none, all codes are known.
use Rattle.std.proofs.Common.{◌≡◌, ◌∙◌}
use Rattle.intaglio_columns.proofs.Names.{strings}
use Rattle.intaglio_columns.specs.Layout.{codes}
use Rattle.intaglio_columns.proofs.Unknown.{first-of-unknown}
use Rattle.intaglio_columns.proofs.file.column.Column.first_unknown.Goals as goal

pub returns : goal.returns
returns g c =
    let bs = c.args.self.now in
    let count : c.self.inside.header.id.count ≡ strings bs = rw (← c.self.view_is) c.self.invariant.header.id.count in
    first-of-unknown (strings bs) _ (codes bs) c.next_row.result (c.of-strings.ensures
    ∙ count) c.next_row.ensures
