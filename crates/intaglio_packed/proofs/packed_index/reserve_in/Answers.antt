-- Either the records stay short with the new room, so four bytes reach it all, or the index was made long
-- first, and a long one is over any room.
use Rattle.intaglio_packed.proofs.Names.{common_steps, record_room_of, same-pairs, over-same}
use Rattle.std.proofs.Common.{◌≡◌, ◌≤◌, ◌-◌, ◌^◌, sym, refl, arith}
use Rattle.intaglio_packed.proofs.packed_index.reserve_in.Goals as goal
use Rattle.intaglio_packed.proofs.packed_index.reserve_in.Goals.{then-not-stays_short+in_ok-lengthen, else-not-stays_short}

pub returns-clause-list : goal.returns-clause-list
returns-clause-list g c = same-pairs _ _ c.reserve.ensures.hashes c.reserve.ensures.contents

pub returns-clause-over : goal.returns-clause-over
returns-clause-over g c =
    let old = c.args.list.now in
    let new = c.reserve.new.self in
    let room = record_room_of new in
    let list : new.list ≡ old.list = same-pairs _ _ c.reserve.ensures.hashes c.reserve.ensures.contents in
    elim c.if-not-stays_short.branch [
      | then-not-stays_short+in_ok-lengthen w ↦
          rw w.index-is (over-same old.list new.list room room w.lengthen.new.self (sym list) refl
          (rw w.records-then-not-stays_short.ensures at (w.in_ok-lengthen.ensures.over room)))
      | else-not-stays_short w ↦ grind (arith, common_steps)
    ]
