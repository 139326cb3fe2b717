-- What a `TableError` prints.
use Rattle.std.specs.Prelude.{ℕ, List, codes}
use Rattle.intaglio_symbol.specs.Error.{intern_error_text, room_error_text}
use Rattle.intaglio.specs.declared.error.TableError.{TableError}
use Rattle.intaglio.specs.declared.error.TableError.TheVariants.{Room, Intern, Stale, Memory}

-- the text of the error inside
abbrev pub table_error_text : TableError → List ℕ
table_error_text (Room room) = room_error_text room
table_error_text (Intern intern) = intern_error_text intern
table_error_text (Stale _) = codes "stale mark"
table_error_text (Memory _) = codes "out of memory"
