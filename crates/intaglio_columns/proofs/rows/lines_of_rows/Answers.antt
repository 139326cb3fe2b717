-- A fault of this range is one of all ranges only because those before it ended at rows that are there.
use Rattle.std.proofs.Common.{arith}
use Rattle.intaglio_columns.proofs.Names.{common_steps}
use Rattle.std.proofs.lemmas.Result.{err_from_is_err_and}
use Rattle.intaglio_columns.proofs.Ranged.{fault-of-range, ranges-further}
use Rattle.intaglio_columns.proofs.rows.lines_of_rows.Goals as goal

pub returns-in_err-add_lines-clause-err : goal.returns-in_err-add_lines-clause-err
returns-in_err-add_lines-clause-err g c = grind (arith, common_steps, err_from_is_err_and, fault-of-range)

pub loop-range-preserved : goal.loop-range-preserved
loop-range-preserved g c = grind (arith, common_steps, ranges-further)
