-- The maps so far were joined.
use Rattle.std.proofs.Common.{◌≡◌, map, take}
use Rattle.intaglio_columns.proofs.Names.{sum_of, strings, joined_codes}
use Rattle.intaglio_columns.proofs.joining.join_maps.Given as goal

abbrev pub invariant-loop-map : goal.invariant-loop-map
invariant-loop-map l = record {
  joined : l.joined.items ≡ joined_codes (take l.map-index l.maps);
  start : l.start ≡ sum_of (map strings (take l.map-index l.maps));
}
