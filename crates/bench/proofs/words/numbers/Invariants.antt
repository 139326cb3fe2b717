-- Each pass pushes one number, so `all` is as long as the count of passes.
use Rattle.std.proofs.Common.{◌≡◌, length}
use Rattle.bench.proofs.words.numbers.Given as goal

abbrev pub invariant-loop-i : goal.invariant-loop-i
invariant-loop-i l = length l.all.items ≡ l.i
