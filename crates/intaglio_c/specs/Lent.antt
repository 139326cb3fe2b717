-- What a lent table writes back.
use base.Fml.{Fml}
use denote.Ref.{MutBor}
use denote.Follow.{follows}
use Rattle.std.specs.declared.option.Option.TheVariants.{Some}
use Rattle.intaglio_c.specs.contracts.any_table.AnyTable.{the_row as any_table}
use Rattle.intaglio_c.specs.contracts.table_ptr.TablePtr.{the_row as table_ptr}

-- the pointer with another table behind it
abbrev pub with_table : table_ptr.Denot → any_table.Denot → table_ptr.Denot
with_table d table = record { ptr = d.ptr; alloc = d.alloc; table = Some table }

-- once the borrow of the table ends, what it then is lies behind the pointer
abbrev pub table_follows : MutBor table_ptr.Denot → MutBor any_table.Denot → Fml
table_follows s r = follows table_ptr any_table s.ghost_name r.ghost_name (with_table s.now)
