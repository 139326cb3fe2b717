-- The texts of the errors.
use Rattle.std.specs.Prelude.{ℕ, List, codes}
use Rattle.intaglio_symbol.specs.declared.error.InternError.{InternError}
use Rattle.intaglio_symbol.specs.declared.error.InternError.TheVariants.{Memory, Overflow}
use Rattle.intaglio_symbol.specs.declared.error.RoomError.{RoomError}
use Rattle.intaglio_symbol.specs.declared.error.RoomError.TheVariants.{CapacityOverflow, Memory as RoomMemory}

-- what an `InternError` prints
abbrev pub intern_error_text : InternError → List ℕ
intern_error_text (Overflow full) = codes "Symbol overflow"
intern_error_text (Memory refused) = codes "out of memory"

-- what a `RoomError` prints
abbrev pub room_error_text : RoomError → List ℕ
room_error_text CapacityOverflow = codes "capacity overflow"
room_error_text (RoomMemory refused) = codes "out of memory"
