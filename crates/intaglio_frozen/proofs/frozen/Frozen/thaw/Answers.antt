-- The strings are distinct, so a table that interns them has them all in their order (`all-interned`). There
-- are at most 2^32, which is its limit, so none is refused (`no-overflow`).
use Rattle.std.proofs.Common.{◌≡◌, ◌∙◌, ◌^◌, ◌<◌, [], length}
use Rattle.intaglio_frozen.proofs.Names.{err_from_is_err_and, IfOverflow, interned_all, string_key}
use Rattle.intaglio_frozen.proofs.Distinct.{all-interned, no-overflow}
use Rattle.intaglio_frozen.proofs.frozen.Frozen.thaw.Goals as goal

pub returns-clause-strings : goal.returns-clause-strings
returns-clause-strings g c =
    let table = c.args.self.now in
    let stored : c.absorb_bytes.new.table.state.contents ≡ interned_all string_key [] table =
    rw c.in_ok-thawed.ensures.empty at c.in_ok-_symbols.ensures.held in
    stored ∙ all-interned string_key [] table c.distinct_strings-strings.ensures.distinct

pub returns-in_err-_symbols-clause-only_memory : goal.returns-in_err-_symbols-clause-only_memory
returns-in_err-_symbols-clause-only_memory g c =
    let table = c.args.self.now in
    let e = c.in_err-_symbols.field-0.0 in
    let full : IfOverflow e (2 ^ 32 < length (interned_all string_key [] table)) =
    rw (c.in_ok-thawed.ensures.limit, c.in_ok-thawed.ensures.empty) at c.in_err-_symbols.ensures.overflow in
    let fits = no-overflow string_key table (2 ^ 32) e c.distinct_strings-strings.ensures.distinct
    c.distinct_strings-strings.ensures.few full in
    let passed =
    err_from_is_err_and c.from_residual-in_err-_symbols.result c.from_residual-in_err-_symbols.ensures.1 in
    rw (passed.1, passed.2) fits
