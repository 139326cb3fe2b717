-- A string counts for its own group and no other (`counted-more`). No group has more strings than there are,
-- so no size overflows.
use Rattle.intaglio_frozen.proofs.Names.{common_steps, get_or_default, length-take-le, count_by-le-length}
use Rattle.std.proofs.Common.{◌∙◌, ◌+◌, ◌<◌, length-set, take, arith}
use Rattle.intaglio_frozen.proofs.Marked.{is_in, counted-more}
use Rattle.intaglio_frozen.proofs.stuck.sizes_of.Goals as goal

pub overflow_add-index_mut : goal.overflow_add-index_mut
overflow_add-index_mut c =
    let hs = c.args.hashes.now in
    let at = c.group_at.result in
    let i = c.loop-i.i in
    let x = c.index_mut.result.now in
    let old = c.loop-i.invariant in
    let read = get_or_default c.loop-i.sizes.items at x 0 (omega (arith, c.group_at.ensures.below, old.count)) in
    let few = count_by-le-length (is_in hs at) (take i hs) in
    let size = length-take-le i hs (omega (arith, c.loop-i-test.true)) in
    record { fits = grind (arith, common_steps) }

pub loop-i-preserved : goal.loop-i-preserved
loop-i-preserved c = grind (arith, common_steps, get_or_default, length-set, counted-more)
