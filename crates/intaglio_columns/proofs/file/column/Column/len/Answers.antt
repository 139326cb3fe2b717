-- What was read of the header agrees with the bytes (`IsRead`), and the layout has one code for each row.
use Rattle.std.proofs.Common.{◌∙◌, sym}
use Rattle.intaglio_columns.proofs.CodesInFile.{all-length}
use Rattle.intaglio_columns.proofs.file.column.Column.len.Goals as goal

pub returns-clause-length : goal.returns-clause-length
returns-clause-length c =
    rw (← c.self.view_is) (c.self.invariant.rows ∙ sym (all-length c.self.inside.bytes.now))

pub returns-clause-few : goal.returns-clause-few
returns-clause-few c = rw (← c.self.view_is) c.self.invariant.whole.header.source.width.few
