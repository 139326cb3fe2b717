-- A string is interned only if the kind takes it, so the table's strings still are what the kind takes.
use Rattle.intaglio_c.proofs.Names.{true}
use Rattle.intaglio_c.proofs.Faults.{held, with_interned}
use Rattle.intaglio_c.proofs.exports.strings.intaglio_intern.Goals as goal

pub invariant_of-handle-clause-faultless : goal.invariant_of-handle-clause-faultless
invariant_of-handle-clause-faultless c =
    with_interned true c.args.bytes.now c.intern.result c.intern.ensures.step
    (held c.table_mut-table.ensures.value c.args.handle.now.faultless)
