-- The start counts the strings of the maps before. With those of this map it is at most the sum over all.
use Rattle.intaglio_columns.proofs.Names.{common_steps, slice_get, slice_get_read, strings}
use Rattle.std.proofs.Common.{◌≡◌, arith, refl, rules, Some}
use Rattle.intaglio_columns.proofs.JoinedMaps.{all-within, joined-next, sum-next, sum-within}
use Rattle.intaglio_columns.proofs.joining.join_maps.Goals as goal

pub add_map-requires-clause-few : goal.add_map-requires-clause-few
add_map-requires-clause-few c = grind (arith, common_steps, slice_get_read, sum-within)

pub overflow_add-start : goal.overflow_add-start
overflow_add-start c = grind (arith, common_steps, slice_get_read, sum-within)

pub loop-map-preserved : goal.loop-map-preserved
loop-map-preserved c =
    let maps = c.args.maps.now in
    let i = c.loop-map.map-index in
    let m = c.map-item.result in
    let at : slice_get maps i ≡ Some m = slice_get_read maps _ i m refl (search rules) c.map-item.is in
    record {
      joined = joined-next maps i m at c.loop-map.start _ _ c.loop-map.invariant.start
          c.loop-map.invariant.joined c.in_ok-add_map.ensures.added;
      start = omega (arith, c.loop-map.invariant.start, c.id.ensures.count, sum-next maps i m at strings);
    }

pub returns-clause-within : goal.returns-clause-within
returns-clause-within c = all-within c.args.maps.now c.requires.maps
