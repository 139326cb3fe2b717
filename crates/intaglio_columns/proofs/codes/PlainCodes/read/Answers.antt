-- By the invariant there are four bytes for each code, so `at` is within the bytes and can't overflow. Code i
-- is made of just the four from there (`code-at`).
use Rattle.intaglio_columns.proofs.Names.{common_steps}
use Rattle.std.proofs.Common.{◌+◌, ◌*◌, ◌≤◌, ap, length, arith}
use Rattle.intaglio_columns.proofs.Cut.{code-at}
use Rattle.intaglio_columns.proofs.codes.PlainCodes.read.Goals as goal

pub overflow_mul-at : goal.overflow_mul-at
overflow_mul-at c = omega (arith, c.self.invariant, c.requires, c.self.told.0, ap length c.self.view_is)

pub returns : goal.returns
returns c = grind (arith, common_steps, code-at)
