-- The strings that a rollback leaves are the first ones, so they are what the kind takes.
use Rattle.intaglio_c.proofs.Faults.{held, with_first_ones}
use Rattle.intaglio_c.proofs.exports.tables.intaglio_take_back.Goals as goal

pub invariant_of-handle-clause-faultless : goal.invariant_of-handle-clause-faultless
invariant_of-handle-clause-faultless c =
    with_first_ones c.new.result c.take_back-taken.result c.take_back-taken.ensures.step
    (held c.table_mut.ensures.value c.args.handle.now.faultless)
