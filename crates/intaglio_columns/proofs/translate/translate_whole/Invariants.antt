-- What was read so far is translated, but for bytes that may be a part of a piece.
use Rattle.std.proofs.Common.{◌≡◌}
use Rattle.intaglio_columns.proofs.Names.{HasTranslated, last_piece}
use Rattle.intaglio_columns.proofs.translate.translate_whole.Given as goal

abbrev pub invariant-loop : goal.invariant-loop
invariant-loop g l = record {
  done : HasTranslated g.T.Translator.pieces (g.T.Translator.fits l.translator)
      (g.T.Translator.translated l.translator) (g.R.Read.remaining l.initial.reader)
      (g.W.Write.contents l.initial.writer) (g.W.Write.contents l.writer) l.block.items l.bytes.items
      (g.R.Read.remaining l.reader) l.count;
  last : g.T.Translator.pieces l.bytes.items ≡ last_piece l.bytes.items;
}
