-- The sizes of the maps so far.
use Rattle.std.proofs.Common.{◌≡◌, ◌-◌, ◌^◌, map, min, take}
use Rattle.intaglio_columns.proofs.Names.{sum_of, rows, strings}
use Rattle.intaglio_columns.proofs.renumbering.sizes_of.Given as goal

abbrev pub invariant-loop-map : goal.invariant-loop-map
invariant-loop-map l = record {
  rows : l.rows ≡ min (sum_of (map rows (take l.map-index l.maps))) (2 ^ 64 - 1);
  strings : l.strings ≡ min (sum_of (map strings (take l.map-index l.maps))) (2 ^ 64 - 1);
}
