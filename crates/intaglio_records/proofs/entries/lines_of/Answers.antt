-- The hash that is read and the slot make the entry of record i (`entry-more`). There is a place for it,
-- because the first i records have i entries (`length-entries`).
use Rattle.intaglio_records.proofs.Names.{common_steps, entries}
use Rattle.std.proofs.Common.{arith}
use Rattle.intaglio_records.proofs.EntryLemmas.{entry-more, length-entries}
use Rattle.intaglio_records.proofs.entries.lines_of.Goals as goal

pub slot_for-requires-clause-few : goal.slot_for-requires-clause-few
slot_for-requires-clause-few c = omega arith

pub place-requires : goal.place-requires
place-requires c = grind (arith, common_steps, length-entries)

pub loop-i-preserved : goal.loop-i-preserved
loop-i-preserved c =
    let long = c.args.is_long in
    let rs = c.args.records.now.list in
    let i = c.loop-i.i in
    let more = entry-more long rs i c.read_hash-hash.result c.string.result.now c.string.ensures c.read_hash-hash.ensures in
    let placed = c.place.ensures.placed (entries long rs i) (omega (arith, length-entries long rs i)) c.loop-i.invariant.filled in
    record {
      filled = grind (arith, common_steps, c.slot_for.ensures, c.start.ensures, more, placed);
      places = omega (arith, c.place.ensures.room, c.loop-i.invariant.places);
      tight = omega (arith, c.place.ensures.room, c.loop-i.invariant.tight);
    }
