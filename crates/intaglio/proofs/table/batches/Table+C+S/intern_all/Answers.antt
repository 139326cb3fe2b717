-- A table is seen as its core, of which the batch says the same.
use Rattle.intaglio.proofs.table.batches.Table+C+S.intern_all.Goals as goal

pub returns-clause-batch : goal.returns-clause-batch
returns-clause-batch g c = rw (← c.self.view_is) c.intern_all.ensures.batch
