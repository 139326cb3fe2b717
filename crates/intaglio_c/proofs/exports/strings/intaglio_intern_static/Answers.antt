-- A string is interned only if the kind takes it, so the table's strings still are what the kind takes.
use Rattle.intaglio_c.proofs.Names.{copies_static, seen}
use Rattle.intaglio_c.proofs.Faults.{held, with_interned}
use Rattle.intaglio_c.proofs.exports.strings.intaglio_intern_static.Goals as goal

pub invariant_of-handle-clause-faultless : goal.invariant_of-handle-clause-faultless
invariant_of-handle-clause-faultless c =
    with_interned (copies_static (seen c.table_mut-table.result.now).kind) c.args.bytes.now
    c.intern_static.result c.intern_static.ensures.step
    (held c.table_mut-table.ensures.value c.args.handle.now.faultless)
