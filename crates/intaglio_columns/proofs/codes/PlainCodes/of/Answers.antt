-- The invariant holds because the length is a multiple of 4, and each four bytes are cut into one code.
use Rattle.intaglio_columns.proofs.Names.{common_steps}
use Rattle.std.proofs.Common.{◌≡◌, ◌%◌, arith}
use Rattle.intaglio_columns.proofs.Cut.{codes-count}
use Rattle.intaglio_columns.proofs.codes.PlainCodes.of.Goals as goal

pub invariant_of-result : goal.invariant_of-result
invariant_of-result c = grind (arith, common_steps, codes-count)
