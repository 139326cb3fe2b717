-- A row's code stands as many widths behind the header as there are rows before it, and `C` has that width.
use Rattle.intaglio_columns.proofs.CodesInFile.{read-get}
use Rattle.intaglio_columns.proofs.file.column.Column.read.Goals as goal

pub returns : goal.returns
returns g c =
    let within = rw (← c.self.view_is) at c.requires.row in
    let width = rw (← c.self.view_is) at c.requires.width in
    rw (← c.self.view_is) (read-get c.self.inside.bytes.now g.C.Code.width c.args.row c.bytes.result _ width
    within c.bytes.ensures c.read.ensures)
