-- Each pass pushes one word, so `all` is as long as the part of `numbers` that was passed.
use Rattle.std.proofs.Common.{◌≡◌, length}
use Rattle.bench.proofs.words.words.Given as goal

abbrev pub invariant-loop-number : goal.invariant-loop-number
invariant-loop-number l = length l.all.items ≡ l.number-index
