-- What was read of the header.
use Rattle.std.specs.Prelude.{◌≡◌}
use Rattle.intaglio_columns.specs.Layout.{rows}
use Rattle.intaglio_columns.specs.IsColumn.{HasRows, IsHeaderOf}
use Rattle.intaglio_columns.specs.declared.file.column.Column.TheInside.{Inside}

pub record IsRead (c : Inside) : Type 0 where
  pub header : IsHeaderOf c.bytes.now c.header
  pub rows : c.rows ≡ rows c.bytes.now
  pub whole : HasRows c.bytes.now
