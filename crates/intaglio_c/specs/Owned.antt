-- What a `TablePtr` owns.
use base.Fml.{Fml, ftrue}
use base.Stored.{Coded}
use denote.RawPtr.{Ptr}
use Rattle.std.specs.Box.Ownership.{box_owns}
use Rattle.std.specs.Coded.{coded_option}
use Rattle.std.specs.Global.{Global}
use Rattle.std.specs.contracts.impls.GlobalAllocator.TheImpl.{ghosts}
use Rattle.std.specs.Prelude.{Option, None, Some}
use Rattle.intaglio_c.specs.contracts.any_table.AnyTable.{the_row}

-- at a pointer, what a box of a table owns, or nothing
abbrev pub ptr_owns : Global → Ptr → Option the_row.Denot → Fml
ptr_owns alloc p None = ftrue
ptr_owns alloc p (Some table) = box_owns (ghosts.dealloc_token alloc) the_row p table

abbrev pub table_coded : Coded (Option the_row.Denot)
table_coded = coded_option the_row.coded
