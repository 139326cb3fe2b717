-- Only `decodes` is hard. There are at most 2^32 strings, so four bytes give back the symbol that was
-- written. Without the missing code each line has one.
use Rattle.std.proofs.Common.{subst, arith}
use Rattle.intaglio_columns.proofs.Names.{lines_of, has_code, AllFit}
use Rattle.intaglio_columns.proofs.Coded.{decodes-to-input, if-some}
use Rattle.intaglio_columns.proofs.columns.encode_column.Goals as goal

pub returns-in-Ok-clause-decodes : goal.returns-in-Ok-clause-decodes
returns-in-Ok-clause-decodes g c = λ none.
    let table = g.D.Dictionary.strings c.args.table.now in
    if-some (g.R.Read.remaining c.args.reader.now) _ _
    (λ input all.
    decodes-to-input table input (omega (arith, c.len-count.ensures.count, c.len-count.ensures.few))
    (subst (λ m. AllFit (has_code table m) (lines_of input)) none all)) c.in-Ok.ensures.fit
