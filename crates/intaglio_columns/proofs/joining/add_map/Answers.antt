-- A map has no missing row, so its numbers are below its count of strings, and `start + number` is a `u32`.
use Rattle.intaglio_columns.proofs.Names.{common_steps, slice_get}
use Rattle.std.proofs.Common.{◌≡◌, ◌<◌, ◌∙◌, ◌++◌, [], ◌∷◌, ap, arith, rules, Some, sym}
use Rattle.intaglio_columns.specs.Layout.{codes}
use Rattle.intaglio_columns.proofs.JoinedMaps.{added-next, below-at}
use Rattle.intaglio_columns.proofs.joining.add_map.Goals as goal

pub overflow_add-start : goal.overflow_add-start
overflow_add-start c = grind (arith, common_steps, below-at)

pub loop-row-preserved : goal.loop-row-preserved
loop-row-preserved c =
    let cs = codes c.args.numbers.now in
    let at : slice_get cs c.loop-row.row ≡ Some c.unwrap-number.result =
    sym c.code.ensures ∙ c.unwrap-number.ensures in
    record {
      added = added-next cs c.loop-row.row c.unwrap-number.result at c.args.start _ _ _
          c.loop-row.invariant.added
          (c.push_reserved.ensures.items ∙ ap (λ n. c.loop-row.joined.items ++ n ∷ []) c.new.ensures);
      room = search rules;
    }
