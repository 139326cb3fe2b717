-- What contracts see of an index over a packed list.
use Rattle.std.specs.Prelude.{ℕ, ◌+◌, ◌-◌, ◌*◌, ◌^◌, ◌≤◌, ◌⊎◌, length, max, sum_by}
use Rattle.intaglio_core.specs.IndexOf.{IndexState}
use Rattle.intaglio_records.specs.Records.{Records, hashes_of, record_room_of, string_room_of, strings_of}
use Rattle.intaglio_records.specs.Index.{made_for}
use Rattle.intaglio_records.specs.declared.index.RecordIndex.{RecordIndex}

-- how many bytes of records there would be room for if so many bytes of strings were spare
abbrev pub room_with : ℕ → Records → ℕ
room_with spare list = 13 * list.most + (sum_by length (strings_of list) + spare)

-- four bytes reach each record while there is room for so many more strings: for what is there and is enough,
-- or for twice as many
abbrev pub StaysShort : ℕ → Records → Type 0
StaysShort additional list =
    let needed = length list.list + additional in
    let most = max 4 (max needed (2 * list.most)) in
    (needed ≤ list.most × (record_room_of list ≤ 2 ^ 32 - 1)) ⊎ (13 * most + string_room_of list ≤ 2 ^ 32 - 1)

-- what contracts see of an index over records
abbrev pub state_over : Records → RecordIndex → IndexState
state_over list index = record { hashes = hashes_of list; room = made_for index; places = made_for index }
