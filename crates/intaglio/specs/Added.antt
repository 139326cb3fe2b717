-- Internings that also say whether something was added.
use Rattle.std.specs.Prelude.{ℕ, Bool, Result, Ok, Err}
use Rattle.intaglio_symbol.specs.declared.error.InternError.{InternError}

-- the symbol alone
abbrev pub symbol_of : Result (ℕ × Bool) InternError → Result ℕ InternError
symbol_of (Ok added) = Ok added.0
symbol_of (Err e) = Err e
