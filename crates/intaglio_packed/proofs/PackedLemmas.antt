-- The index of a packed list stays over it while its room changes.
use Rattle.std.proofs.Common.{◌≡◌, ℕ, ◌-◌, ◌^◌, ◌≤◌, sym, refl, arith}
use Rattle.intaglio_records.specs.declared.index.RecordIndex.{RecordIndex}
use Rattle.intaglio_records.specs.Index.{IsOver}
use Rattle.intaglio_packed.proofs.Names.{Records, hashes_of, record_room_of, strings_of, over-less, over-same, same-pairs}
use Rattle.intaglio_packed.specs.PackedIndex.{room_with}

-- an index stays over records that give up room
pub gives-up : (index : RecordIndex) (old new : Records) → strings_of new ≡ strings_of old
    → hashes_of new ≡ hashes_of old
    → new.most ≤ old.most
    → new.spare_bytes ≤ old.spare_bytes
    → IsOver old.list (record_room_of old) index
    → IsOver new.list (record_room_of new) index
gives-up index old new strings hashes most spare is =
    let list : new.list ≡ old.list = same-pairs new.list old.list hashes strings in
    let less : record_room_of new ≤ record_room_of old = rw list (omega (arith, most, spare)) in
    over-less new.list (record_room_of old) (record_room_of new) index
    (over-same old.list new.list (record_room_of old) (record_room_of old) index (sym list) refl is) less

-- an index stays over records whose strings and room for them are the same, with this room for bytes
pub over-spare : (old new : Records) (index : RecordIndex) (spare : ℕ) → hashes_of new ≡ hashes_of old →
    strings_of new ≡ strings_of old → new.most ≡ old.most → spare ≡ old.spare_bytes
    → IsOver old.list (record_room_of old) index → IsOver new.list (room_with spare new) index
over-spare old new index spare hashes strings most same over =
    let list : new.list ≡ old.list = same-pairs new.list old.list hashes strings in
    let room : room_with spare new ≡ record_room_of old = rw list (omega (arith, most, same)) in
    over-same old.list new.list (record_room_of old) (room_with spare new) index (sym list) (sym room) over
