-- All kinds allow the empty input, of which nothing is interned yet.
use Rattle.intaglio_columns.proofs.Interned.{allows-nothing}
use Rattle.intaglio_columns.proofs.interning.intern_input.Goals as goal

pub add_all-requires : goal.add_all-requires
add_all-requires g c = c.in_ok-made.ensures.none c.args.kind c.args.is_kept (allows-nothing c.args.kind)
