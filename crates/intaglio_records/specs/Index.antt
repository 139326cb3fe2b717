-- What a contract sees of an index over records.
use Rattle.std.specs.Prelude.{◌≡◌, ℕ, ◌+◌, ◌*◌, ◌-◌, ◌^◌, ◌≤◌, Bool, false, List, length}
use Rattle.intaglio_records.specs.Chains.{IsFilled, places_of}
use Rattle.intaglio_records.specs.declared.index.RecordIndex.{RecordIndex}
use Rattle.intaglio_records.specs.Entries.{entries_of}

-- for how many strings it was made
abbrev pub made_for : RecordIndex → ℕ
made_for index = index.places

-- whether its slots are numbers of records, and not where they begin
abbrev pub is_long_of : RecordIndex → Bool
is_long_of index = index.is_long

-- it is over these strings, each with its hash, and stays so while the records have this much room: it has an
-- entry for each string, and for no other. In a short index, four bytes reach each beginning within the room.
-- Its lines have at most twice as many places, and six
pub record IsOver (xs : List (ℕ × List ℕ)) (room : ℕ) (index : RecordIndex) : Type 0 where
  pub filled : IsFilled index.lines (entries_of index.is_long xs (length xs))
  pub within : length xs ≤ made_for index
  pub places : made_for index ≤ places_of index.lines
  pub tight : places_of index.lines ≤ 2 * made_for index + 6
  pub short : index.is_long ≡ false → room ≤ 2 ^ 32 - 1

-- it is over some strings
abbrev pub IsIndex : RecordIndex → Type 0
IsIndex index = (xs : List (ℕ × List ℕ)) × (room : ℕ) × IsOver xs room index
