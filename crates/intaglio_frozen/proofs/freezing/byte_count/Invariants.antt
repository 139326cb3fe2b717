-- The count is the number of bytes of the strings so far, or `u64::MAX` if that is less.
use Rattle.std.proofs.Common.{◌≡◌, ◌-◌, ◌^◌, length, take, min, sum_by}
use Rattle.intaglio_frozen.proofs.freezing.byte_count.Given as goal

abbrev pub invariant-loop-i : goal.invariant-loop-i
invariant-loop-i g l = l.count ≡ min (sum_by length (take l.i (g.L.StringList.strings l.list))) (2 ^ 64 - 1)
