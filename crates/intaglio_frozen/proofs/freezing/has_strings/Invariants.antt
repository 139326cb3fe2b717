-- The strings so far are those of the list.
use Rattle.std.proofs.Common.{◌≡◌, ℕ, ◌<◌, slice_get}
use Rattle.intaglio_frozen.specs.Layout.{strings}
use Rattle.intaglio_frozen.proofs.freezing.has_strings.Given as goal

abbrev pub invariant-loop-i : goal.invariant-loop-i
invariant-loop-i g l =
    (k : ℕ) → k < l.i → slice_get (strings l.block) k ≡ slice_get (g.L.StringList.strings l.list) k
