-- Of the places so far `used` counts those that have a symbol, and the others have the tag 0.
use Rattle.std.proofs.Common.{◌≡◌, ℕ, ◌<◌, ◌≤◌}
use Rattle.intaglio_frozen.proofs.Names.{symbol_of, tag_of, no_symbol, used_below}
use Rattle.intaglio_frozen.proofs.block.Block.has_unused.Given as goal

abbrev pub invariant-loop-place : goal.invariant-loop-place
invariant-loop-place l = record {
  tags : (p : ℕ) → p < l.place → symbol_of l.self p ≡ no_symbol → tag_of l.self p ≡ 0;
  used : l.used ≡ used_below l.self l.place;
  few : l.used ≤ l.place;
}
