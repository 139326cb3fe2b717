-- Which rows a filter selects.
use Rattle.std.specs.Prelude.{ℕ, ◌==◌, Bool, not, cond, false, get_or}
use Rattle.intaglio_columns.specs.Width.{missing}
use Rattle.intaglio_columns.specs.declared.file.filter.RowFilter.{RowFilter}

-- whether rows with this code are meant
abbrev pub is_meant : RowFilter → ℕ → Bool
is_meant filter code = cond (code == missing) filter.missing (get_or filter.strings.items code false)

-- whether they are selected
abbrev pub selects : RowFilter → ℕ → Bool
selects filter code = cond filter.inverts (not (is_meant filter code)) (is_meant filter code)
