-- The members so far are strings of the group, in order, and the next one is behind them all.
use Rattle.std.proofs.Common.{ℕ, ◌<◌, length, get_or}
use Rattle.intaglio_frozen.proofs.Names.{AreMembers}
use Rattle.intaglio_frozen.proofs.stuck.members_of.Given as goal

abbrev pub invariant-loop-i : goal.invariant-loop-i
invariant-loop-i l = record {
  members : AreMembers l.hashes l.group l.members.items;
  before : (k : ℕ) → k < length l.members.items → get_or l.members.items k 0 < l.i;
}
