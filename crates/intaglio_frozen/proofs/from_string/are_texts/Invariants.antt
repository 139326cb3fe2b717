-- The strings so far are UTF-8.
use Rattle.std.proofs.Common.{◌≡◌, ℕ, List, ◌<◌, Some, slice_get, IsUtf8}
use Rattle.intaglio_frozen.proofs.from_string.are_texts.Given as goal

abbrev pub invariant-loop-i : goal.invariant-loop-i
invariant-loop-i g l = (k : ℕ) (w : List ℕ) → k < l.i → slice_get (g.L.StringList.strings l.list) k ≡ Some w →
    IsUtf8 w
