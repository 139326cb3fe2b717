-- The state has the two keys, so the next hash is that of the next string under them (`found-more`).
use Rattle.std.proofs.Common.{◌≡◌, get_or, rules}
use Rattle.intaglio_frozen.proofs.Names.{slice_get_within, get_or_from_slice_get, hash_under}
use Rattle.intaglio_frozen.proofs.Found.{found-more}
use Rattle.intaglio_frozen.proofs.hashing.hashes.Goals as goal

pub loop-i-preserved : goal.loop-i-preserved
loop-i-preserved g c =
    let ws = g.L.StringList.strings c.args.list.now in
    let i = c.loop-i.i in
    let w = c.string.result.now in
    let f = hash_under c.args.key0 c.args.key1 in
    let at : get_or ws i w ≡ w = get_or_from_slice_get ws i w w c.string.ensures in
    record {
      hashes = found-more ws i f w _ _ _ (slice_get_within ws i w c.string.ensures) c.loop-i.invariant.hashes
          c.push_reserved.ensures.items (rw (at, ← c.with_keys-state.ensures) c.hash_by.ensures);
      count = search rules;
      room = search rules;
    }
