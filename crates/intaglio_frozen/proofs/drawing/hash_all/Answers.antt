-- A turn writes the length and the string, which is one step of the fold in `hash_all` (`fold_more`).
use Rattle.std.proofs.Common.{◌≡◌, ◌∙◌, ap, get_or}
use Rattle.std.specs.Hash.DefaultHasher.{write}
use Rattle.intaglio_frozen.proofs.Names.{fold_more, slice_get_within, get_or_from_slice_get, after_string}
use Rattle.intaglio_frozen.proofs.drawing.hash_all.Goals as goal

pub loop-i-preserved : goal.loop-i-preserved
loop-i-preserved g c =
    let ws = g.L.StringList.strings c.args.list.now in
    let i = c.loop-i.i in
    let w = c.string-string.result.now in
    let more =
    fold_more after_string c.build_hasher-hasher.result ws i w
    (slice_get_within ws i w c.string-string.ensures) in
    let at : get_or ws i w ≡ w = get_or_from_slice_get ws i w w c.string-string.ensures in
    rw (more, at, ← c.loop-i.invariant) (c.write.ensures ∙ ap (λ h. write h w) c.write_u64.ensures)
