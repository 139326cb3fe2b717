-- The size of each group is how many of the strings so far are in it.
use Rattle.std.proofs.Common.{◌≡◌, ℕ, ◌<◌, length, get_or, take, count_by}
use Rattle.intaglio_frozen.proofs.Names.{groups_for}
use Rattle.intaglio_frozen.proofs.Marked.{is_in}
use Rattle.intaglio_frozen.proofs.stuck.sizes_of.Given as goal

abbrev pub invariant-loop-i : goal.invariant-loop-i
invariant-loop-i l = record {
  count : length l.sizes.items ≡ groups_for (length l.hashes);
  sizes : (g : ℕ) → g < groups_for (length l.hashes) →
      get_or l.sizes.items g 0 ≡ count_by (is_in l.hashes g) (take l.i l.hashes);
}
