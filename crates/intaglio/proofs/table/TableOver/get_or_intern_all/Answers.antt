-- A table is seen as its core, of which the batch says the same.
use Rattle.intaglio.proofs.table.TableOver.get_or_intern_all.Goals as goal

pub returns-clause-batch : goal.returns-clause-batch
returns-clause-batch g c = rw (← c.self.view_is) c.get_or_intern_all.ensures.batch
