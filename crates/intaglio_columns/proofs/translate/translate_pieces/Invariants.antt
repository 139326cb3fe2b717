-- What was translated before these bytes, and of them so far.
use Rattle.std.proofs.Common.{◌-◌, ◌≤◌, drop, length}
use Rattle.intaglio_columns.proofs.Names.{GoesOn}
use Rattle.intaglio_columns.proofs.translate.translate_pieces.Given as goal

abbrev pub invariant-loop-size : goal.invariant-loop-size
invariant-loop-size g l = record {
  within : l.at ≤ length l.bytes;
  goes : GoesOn g.T.Translator.pieces (g.T.Translator.fits l.translator) (g.T.Translator.translated l.translator)
      (g.W.Write.contents l.initial.writer) l.initial.block.items l.bytes l.fn.number
      (g.W.Write.contents l.writer) l.block.items (drop l.at l.bytes) l.count;
}

abbrev pub decreases-loop-size : goal.decreases-loop-size
decreases-loop-size g l = length l.bytes - l.at
