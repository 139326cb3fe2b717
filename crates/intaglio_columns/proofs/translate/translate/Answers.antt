-- The pieces before the last are in the block or written, then the last is, and then the block is written
-- out. Wherever this stops, a front of it was written: if the first allocation fails, an empty one.
use Rattle.std.proofs.Common.{[], refl}
use Rattle.intaglio_columns.proofs.Parts.{on-err}
use Rattle.intaglio_columns.proofs.Translated.{all-written, block-part, kept-part, none-translated}
use Rattle.intaglio_columns.proofs.translate.translate.Goals as goal

pub returns-in-Ok-clause-written : goal.returns-in-Ok-clause-written
returns-in-Ok-clause-written g c =
    let before = rw (← c.deref.ensures.value) at c.in_ok-last.ensures.ok in
    all-written (c.in_ok-count.ensures.ok _ _ _ c.in_ok-last.ensures.all_read before) _
    g.T.Translator.no_pieces c.in_ok-last.ensures.all_read refl
    (rw c.deref-2.ensures.value at c.in-Ok.ensures.written)

pub returns-in_err-block-clause-part : goal.returns-in_err-block-clause-part
returns-in_err-block-clause-part g c =
    on-err c.from_residual.result
    (kept-part (none-translated g.T.Translator.pieces (g.T.Translator.fits c.args.translator.now)
    (g.T.Translator.translated c.args.translator.now) (g.R.Read.remaining c.args.reader.now)
    (g.W.Write.contents c.args.writer.now) [] refl))

pub returns-in_err-count-clause-part : goal.returns-in_err-count-clause-part
returns-in_err-count-clause-part g c =
    on-err c.from_residual-in_err-count.result
    (c.in_err-count.ensures.part _ _ _ c.in_ok-last.ensures.all_read
    (rw (← c.deref.ensures.value) at c.in_ok-last.ensures.ok))

pub returns-clause-part : goal.returns-clause-part
returns-clause-part g c =
    let before = rw (← c.deref.ensures.value) at c.in_ok-last.ensures.ok in
    block-part (c.in_ok-count.ensures.ok _ _ _ c.in_ok-last.ensures.all_read before) _
    (rw c.deref-2.ensures.value at c.write_out.ensures.front)
