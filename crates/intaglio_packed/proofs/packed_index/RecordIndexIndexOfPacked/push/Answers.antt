-- The pushed value adds one string, with the hash by which the index has placed it (`adds_one`). Its bytes
-- were spare, so there is as much room for records as before.
use Rattle.intaglio_packed.proofs.Names.{common_steps, map-append, record_room_of, same-pairs, over-same}
use Rattle.std.proofs.Common.{◌≡◌, ℕ, List, [], ◌∷◌, ◌++◌, sym, ◌∙◌, arith}
use Rattle.intaglio_packed.proofs.packed_index.RecordIndexIndexOfPacked.push.Goals as goal

pub returns-clause-over : goal.returns-clause-over
returns-clause-over g c =
    let old = c.args.list.now in
    let new = c.push.new.store in
    let pushed = g.met.Q.AddedTo.adds_one _ _ _ c.push.ensures.added in
    let pair : ℕ × List ℕ = (c.args.hash, pushed.content) in
    let list : new.list ≡ old.list ++ pair ∷ [] = grind (arith, common_steps, same-pairs, map-append) in
    let room : record_room_of new ≡ record_room_of old = grind (arith, common_steps) in
    over-same (old.list ++ pair ∷ []) new.list (record_room_of old) (record_room_of new) c.place.new.self
    (sym list) (sym room) (rw c.records.ensures at (c.place.ensures.over pushed.content))
