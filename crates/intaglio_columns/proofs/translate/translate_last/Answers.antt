-- At the end of the input nothing can follow, so bytes that may be a part of a piece are the last piece.
use Rattle.std.proofs.Common.{◌∙◌, [], ◌∷◌, ap}
use Rattle.intaglio_columns.proofs.Parts.{on-err, one-part}
use Rattle.intaglio_columns.proofs.Translated.{group-part, last-begins, next-translated, of-ok, one-piece}
use Rattle.intaglio_columns.proofs.translate.translate_last.Goals as goal

pub returns-clause-ok : goal.returns-clause-ok
returns-clause-ok g c =
    let last = c.args.last.now in
    let one = c.requires ∙ one-piece last c.is_empty.result c.is_empty.ensures c.if-is_empty.false in
    of-ok _ _ c.put_piece.result c.put_piece.ensures.fits c.put_piece.ensures.put c.put_piece.ensures.count
    (λ count fit more next input old left end before.
    next-translated before count last [] (last-begins _ left last g.T.Translator.no_pieces one end) fit more
    (c.put_piece.ensures.front fit) next)

pub returns-clause-part : goal.returns-clause-part
returns-clause-part g c =
    let last = c.args.last.now in
    let one = c.requires ∙ one-piece last c.is_empty.result c.is_empty.ensures c.if-is_empty.false in
    on-err c.put_piece.result (λ input old left end before.
    group-part before (last ∷ []) [] (last-begins _ left last g.T.Translator.no_pieces one end)
    (one-part c.put_piece.ensures.front (λ unfit. ap g.W.Write.contents (c.put_piece.ensures.unfit unfit))))
