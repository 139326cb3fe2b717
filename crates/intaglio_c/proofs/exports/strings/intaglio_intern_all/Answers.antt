-- A batch is interned only if the kind takes each of its strings, so the table's strings still are what it
-- takes.
use Rattle.intaglio_c.proofs.Names.{length, is_batch, pieces}
use Rattle.intaglio_c.proofs.Faults.{held, with_either}
use Rattle.intaglio_c.proofs.exports.strings.intaglio_intern_all.Goals as goal

pub invariant_of-handle-clause-faultless : goal.invariant_of-handle-clause-faultless
invariant_of-handle-clause-faultless c =
    with_either (is_batch c.args.bytes.now c.args.ends.now (length c.args.symbols.now))
    (pieces c.args.bytes.now 0 c.args.ends.now) c.intern_all.new.symbols c.intern_all.result
    c.intern_all.ensures.step (held c.table_mut.ensures.value c.args.handle.now.faultless)
