-- All numbers are ends exactly if those that are left are ends behind the last one that was read.
use Rattle.std.proofs.Common.{◌↔◌, ◌+◌, ◌-◌, ◌*◌}
use Rattle.intaglio_frozen.proofs.Names.{AreEnds, numbers_at}
use Rattle.intaglio_frozen.proofs.reader.are_ends.Given as goal

abbrev pub invariant-loop-i : goal.invariant-loop-i
invariant-loop-i l = AreEnds 0 l.all (numbers_at l.bytes l.at l.count) ↔
    AreEnds l.before l.all (numbers_at l.bytes (l.at + 4 * l.i) (l.count - l.i))
