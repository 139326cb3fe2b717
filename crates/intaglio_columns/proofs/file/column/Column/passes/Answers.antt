-- The row is there, so `get_or` reads its code and not the default.
use Rattle.std.proofs.Common.{◌∙◌, ap}
use Rattle.intaglio_columns.proofs.CodesInFile.{read-or}
use Rattle.intaglio_columns.proofs.file.column.Column.passes.Goals as goal

pub returns : goal.returns
returns g c =
    let within = rw (← c.self.view_is) at c.requires.row in
    let width = rw (← c.self.view_is) at c.requires.width in
    rw (← c.self.view_is)
    (c.passes_at.ensures
    ∙ ap (g.T.CodeTest.passes c.args.test.now)
    (read-or c.self.inside.bytes.now g.C.Code.width c.args.row c.bytes.result width within c.bytes.ensures))
