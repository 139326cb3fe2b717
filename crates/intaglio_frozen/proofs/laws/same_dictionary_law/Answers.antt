use Rattle.intaglio_frozen.proofs.Names.{kind, is_text_number}
use Rattle.intaglio_frozen.specs.Layout.{strings}
use Rattle.intaglio_frozen.proofs.Places.{AreBytes, of-strings, to-strings}
use Rattle.intaglio_frozen.proofs.laws.same_dictionary_law.Goals as goal

-- both are what their strings are
pub returns : goal.returns
returns c =
    let bs = c.args.first.now in
    let cs = c.args.second.now in
    let id = c.args.id in
    let fb : AreBytes bs = λ k. (c.type_inv.first k).fits in
    let fc : AreBytes cs = λ k. (c.type_inv.second k).fits in
    let h = c.requires in
    let of_first = to-strings bs fb h.first.block (is_text_number (kind bs)) id h.id in
    of-strings cs fc h.second.block (is_text_number (kind cs)) id (rw (h.strings, h.kind) at of_first)
