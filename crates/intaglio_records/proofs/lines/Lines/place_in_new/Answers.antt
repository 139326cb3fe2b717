-- There are eleven entries for each overflow line and for this one (`all-full`), so there is memory for it.
-- It has one entry and leads to what was the newest line, and the first line leads to it (`place-new`).
use Rattle.intaglio_records.proofs.Names.{common_steps, get_or_append_left}
use Rattle.std.proofs.Common.{◌≡◌, ◌<◌, [], ◌∷◌, length, get_or, refl, ap, ◌∙◌, arith, mod-lt}
use Rattle.intaglio_records.proofs.Placing.{place-new, all-full, first-is, refilled}
use Rattle.intaglio_records.proofs.lines.Lines.place_in_new.Goals as goal

pub push_reserved-requires : goal.push_reserved-requires
push_reserved-requires c = grind (arith, common_steps, mod-lt, all-full)

pub returns-clause-placed : goal.returns-clause-placed
returns-clause-placed c es room filled =
    let lines = c.args.self.now in
    let old = lines.lines.items in
    let k = c.args.first in
    let y = c.index_mut.result.now in
    let some : 0 < lines.base = omega (arith, room) in
    let within : k < lines.base = rw c.requires.class (mod-lt c.args.hash some) in
    let x = c.put.new.self in
    let items = c.push_reserved.ensures.items in
    let first = c.put.ensures [] c.args.newest c.args.hash c.empty-line.ensures refl c.tag_of.ensures in
    let read = first-is lines es filled k within y (c.index_mut.ensures.value ∙ ap (λ xs. get_or xs k y) items
    ∙ get_or_append_left old (x ∷ []) y k (omega (arith, within, filled.chains.size))) in
    let number : c.len-number.result ≡ length old = omega (arith, c.len-number.ensures, lines.lines.ok.0) in
    let whole =
    place-new lines.base k (c.args.hash, c.args.slot) es old some c.requires.class filled.chains x
    c.set_next.new.self (c.requires.full es filled) (c.requires.others_full es filled)
    (rw (c.requires.newest es filled) at first) (rw number at (c.set_next.ensures _ _ read)) in
    refilled lines _ es _ filled refl (omega (arith, c.push_reserved.ensures.capacity)) (omega (arith, room))
    (rw items whole)
