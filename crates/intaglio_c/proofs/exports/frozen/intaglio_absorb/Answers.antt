-- A frozen table is absorbed only if the kind takes each of its strings, so the table's strings still are
-- what it takes.
use Rattle.intaglio_c.proofs.Faults.{held, with_frozen}
use Rattle.intaglio_c.proofs.exports.frozen.intaglio_absorb.Goals as goal

pub invariant_of-handle-clause-faultless : goal.invariant_of-handle-clause-faultless
invariant_of-handle-clause-faultless c =
    with_frozen c.args.bytes.now c.args.symbols.now c.absorb.new.symbols c.absorb.result c.absorb.ensures.step
    (held c.table_mut.ensures.value c.args.handle.now.faultless)
