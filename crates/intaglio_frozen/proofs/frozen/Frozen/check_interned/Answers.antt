-- By the invariant each string is found at its symbol. So a look-up finds the first position
-- (`find-is-first`), and no two strings are equal (`all_distinct`).
use Rattle.std.proofs.Common.{◌∙◌}
use Rattle.intaglio_frozen.proofs.Found.{find-is-first, all_distinct}
use Rattle.intaglio_frozen.proofs.frozen.Frozen.check_interned.Goals as goal

pub returns-clause-distinct : goal.returns-clause-distinct
returns-clause-distinct c = rw (← c.self.view_is) (all_distinct c.self.inside.block c.self.invariant.found)

pub returns-clause-value : goal.returns-clause-value
returns-clause-value c =
    rw (← c.self.view_is) (c.find.ensures
    ∙ find-is-first c.self.inside.block c.args.string.now c.self.invariant.found)
