-- The newest entry is that of the last record that is left (`entry-more`), so it was placed by the hash that
-- is read there. At the end `count` is the smaller one of `n` and the number of records.
use Rattle.intaglio_records.proofs.Names.{common_steps, IsFilled, entries, position, slot_of}
use Rattle.std.proofs.Common.{◌∷◌, ◌-◌, arith, ◌∙◌, subst}
use Rattle.intaglio_records.proofs.EntryLemmas.{entry-more}
use Rattle.intaglio_records.proofs.entries.remove_behind.Goals as goal

pub remove_newest-requires : goal.remove_newest-requires
remove_newest-requires c =
    let long = c.args.is_long in
    let rs = c.args.records.now.list in
    let n = c.loop-count.count - 1 in (
      slot_of long n (position rs n),
      entries long rs n,
      grind (arith, common_steps, entry-more long rs n c.read_hash.result c.string.result.now c.string.ensures c.read_hash.ensures),
    )

pub loop-count-preserved : goal.loop-count-preserved
loop-count-preserved c =
    let long = c.args.is_long in
    let rs = c.args.records.now.list in
    let n = c.loop-count.count - 1 in
    let old : IsFilled c.loop-count.lines ((c.read_hash.result, slot_of long n (position rs n)) ∷ entries long rs n) =
    grind (arith, common_steps, entry-more long rs n c.read_hash.result c.string.result.now c.string.ensures c.read_hash.ensures) in
    record {
      filled = c.remove_newest.ensures.removed (slot_of long n (position rs n)) (entries long rs n) old;
      places = c.remove_newest.ensures.room ∙ c.loop-count.invariant.places;
      within = omega (arith, c.loop-count.invariant.within);
      above = omega (arith, c.loop-count.invariant.above, c.loop-count-test.true);
    }

pub returns-clause-kept : goal.returns-clause-kept
returns-clause-kept c =
    subst (λ n. IsFilled c.loop-count.lines (entries c.args.is_long c.args.records.now.list n)) (omega arith) c.loop-count.invariant.filled
