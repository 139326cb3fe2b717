-- Each place marked so far is that of a string whose group is placed before this one, and no two such strings
-- have the same.
use Rattle.std.proofs.Common.{◌≡◌, length, get_or}
use Rattle.intaglio_frozen.proofs.Names.{AreMarked}
use Rattle.intaglio_frozen.proofs.Marked.{AreOwn}
use Rattle.intaglio_frozen.proofs.stuck.mark_before.Given as goal

abbrev pub invariant-loop-i : goal.invariant-loop-i
invariant-loop-i l = record {
  len : length l.marks ≡ length l.fn.marks;
  marked : AreMarked l.hashes (λ g. get_or l.pilots g 0) l.group l.marks 0;
  own : AreOwn l.hashes (λ g. get_or l.pilots g 0) l.group l.marks l.i;
}
