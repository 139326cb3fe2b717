-- What remains is the case of a first line that isn't full: it takes the entry, and no other line changes
-- (`place-first`). What `IsFilled` says of the room doesn't depend on which entries there are (`refilled`).
use Rattle.std.proofs.Common.{◌<◌, refl, arith, mod-lt}
use Rattle.intaglio_records.proofs.Placing.{place-first, first-is, refilled}
use Rattle.intaglio_records.proofs.lines.Lines.place.Goals as goal

pub returns-clause-placed : goal.returns-clause-placed
returns-clause-placed c es room filled =
    let lines = c.args.self.now in
    let k = c.class-first.result in
    let at = c.class-first.ensures in
    let some : 0 < lines.base = omega (arith, room) in
    let within : k < lines.base = rw at (mod-lt c.args.hash some) in
    let count = c.count-count.ensures _ _ (first-is lines es filled k within c.index.result.now c.index.ensures) in
    let again = first-is lines es filled k within c.index_mut.result.now c.index_mut.ensures.value in
    refilled lines _ es _ filled refl refl (omega (arith, room))
    (place-first lines.base k (c.args.hash, c.args.slot) es lines.lines.items some at filled.chains
    c.put.new.self (omega (arith, count, c.if-count-ge-SLOTS.false))
    (c.put.ensures _ _ c.args.hash again count c.tag_of.ensures))
