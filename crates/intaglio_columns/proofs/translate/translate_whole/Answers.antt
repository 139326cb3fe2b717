-- Bytes that are read only move from what is left to what is held, so `translate_front` can go on from there.
-- What was written before an error stays a front of the translation.
use Rattle.std.proofs.Common.{◌≡◌, ◌∙◌, ap, sym, subst, length, take, rules}
use Rattle.intaglio_columns.proofs.Names.{last_piece, take_at}
use Rattle.intaglio_columns.proofs.Parts.{on-err, passed-on}
use Rattle.intaglio_columns.proofs.Translated.{failure-reports, kept-part, none-translated, reads-more}
use Rattle.intaglio_columns.proofs.translate.translate_whole.Goals as goal

pub loop-init : goal.loop-init
loop-init g c =
    let translator = c.args.translator.now in
    rw c.new-bytes.ensures.items (record {
      done = none-translated _ _ _ _ _ _ c.requires;
      last = g.T.Translator.no_pieces;
    })

pub loop-preserved : goal.loop-preserved
loop-preserved g c = record {
  done = c.in_ok-count.ensures.ok _ _ _ (reads-more c.loop.invariant.done c.in_ok-more.ensures.read);
  last = c.in_ok-count.ensures.last;
}

pub returns-in_err-count-clause-misfit : goal.returns-in_err-count-clause-misfit
returns-in_err-count-clause-misfit g c =
    passed-on _ c.from_residual-in_err-count.result _ c.from_residual-in_err-count.ensures.1
    (c.in_err-count.ensures.misfit _ _ _ (reads-more c.loop.invariant.done c.in_ok-more.ensures.read))

pub returns-in_err-more-clause-misfit : goal.returns-in_err-more-clause-misfit
returns-in_err-more-clause-misfit g c =
    passed-on _ c.from_residual.result _ c.from_residual.ensures.1
    (failure-reports (g.T.Translator.fits c.args.translator.now) g.T.Translator.pieces
    (g.R.Read.remaining c.args.reader.now) c.in_err-more.field-0.0 c.in_err-more.ensures.err)

pub returns-in_err-count-clause-part : goal.returns-in_err-count-clause-part
returns-in_err-count-clause-part g c = on-err c.from_residual-in_err-count.result
    (c.in_err-count.ensures.part _ _ _ (reads-more c.loop.invariant.done c.in_ok-more.ensures.read))

pub returns-in_err-more-clause-part : goal.returns-in_err-more-clause-part
returns-in_err-more-clause-part g c = on-err c.from_residual.result (kept-part c.loop.invariant.done)

pub returns-clause-part : goal.returns-clause-part
returns-clause-part g c = kept-part c.loop.invariant.done

pub translate_front-requires-clause-seen : goal.translate_front-requires-clause-seen
translate_front-requires-clause-seen g c =
    let read = c.in_ok-more.ensures.read in
    let long : length c.loop.bytes.items ≡ c.len-seen.result = search rules in
    subst (λ t. g.T.Translator.pieces t ≡ last_piece t)
    (sym (ap (take c.len-seen.result) read.1 ∙ take_at c.loop.bytes.items read.0 c.len-seen.result long))
    c.loop.invariant.last

pub returns-then-not-more-clause-ok : goal.returns-then-not-more-clause-ok
returns-then-not-more-clause-ok g c = reads-more c.loop.invariant.done c.in_ok-more.ensures.read

pub returns-then-not-more-clause-last : goal.returns-then-not-more-clause-last
returns-then-not-more-clause-last g c =
    subst (λ t. g.T.Translator.pieces t ≡ last_piece t) (sym (c.in_ok-more.ensures.same c.if-not-more.true))
    c.loop.invariant.last

pub returns-then-not-more-clause-all_read : goal.returns-then-not-more-clause-all_read
returns-then-not-more-clause-all_read g c = c.in_ok-more.ensures.end c.if-not-more.true
