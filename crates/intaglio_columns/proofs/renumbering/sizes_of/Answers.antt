-- A sum that stops at the greatest number in some step would be past it at the end too: sums only grow.
use Rattle.intaglio_columns.proofs.Names.{common_steps, slice_get, slice_get_read, rows, strings}
use Rattle.std.proofs.Common.{◌≡◌, arith, refl, rules, Some}
use Rattle.intaglio_columns.proofs.JoinedMaps.{sum-next}
use Rattle.intaglio_columns.proofs.renumbering.sizes_of.Goals as goal

pub loop-map-preserved : goal.loop-map-preserved
loop-map-preserved c =
    let maps = c.args.maps.now in
    let i = c.loop-map.map-index in
    let m = c.map-item.result in
    let at : slice_get maps i ≡ Some m = slice_get_read maps _ i m refl (search rules) c.map-item.is in
    record {
      rows = omega (arith, sum-next maps i m at rows);
      strings = grind (arith, common_steps, sum-next);
    }
