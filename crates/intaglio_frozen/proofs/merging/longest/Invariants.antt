-- Each length counts for at most 2^32, so the greatest is at most that.
use Rattle.std.proofs.Common.{◌≤◌, ◌^◌}
use Rattle.intaglio_frozen.proofs.merging.longest.Given as goal

abbrev pub invariant-loop-list : goal.invariant-loop-list
invariant-loop-list g l = l.most ≤ 2 ^ 32
