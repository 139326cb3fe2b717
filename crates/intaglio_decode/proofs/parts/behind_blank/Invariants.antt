-- The first empty line of what is left is that of all lines.
use Rattle.std.proofs.Common.{◌≡◌, length}
use Rattle.intaglio_decode.proofs.Names.{list_any, lines_of, is_blank, spellings_of}
use Rattle.intaglio_decode.proofs.parts.behind_blank.Given as goal

abbrev pub invariant-loop-rest : goal.invariant-loop-rest
invariant-loop-rest l = record {
  any : list_any is_blank (lines_of l.rest) ≡ list_any is_blank (lines_of l.bytes);
  spellings : spellings_of l.rest ≡ spellings_of l.bytes;
}

abbrev pub decreases-loop-rest : goal.decreases-loop-rest
decreases-loop-rest l = length l.rest
