-- All bytes of records are those of the strings and 13 for each (`strings-bytes`). So room for the doubled
-- number of bytes of strings, and 13 for each string that there is room for, is just what is reserved.
use Rattle.intaglio_records.proofs.Names.{common_steps}
use Rattle.std.proofs.Common.{sum_by, arith}
use Rattle.std.proofs.lemmas.Result.{on_ok_weaker}
use Rattle.intaglio_records.proofs.RecordLemmas.{are-long, ok-or-err, strings-bytes, strings_in}
use Rattle.intaglio_records.proofs.records.StringRecords.grow_bytes.Goals as goal

pub returns-clause-bytes : goal.returns-clause-bytes
returns-clause-bytes c = grind (arith, common_steps, are-long, strings-bytes, on_ok_weaker)

pub returns-clause-grows : goal.returns-clause-grows
returns-clause-grows c = grind (arith, common_steps, are-long, strings-bytes, sum_by, strings_in, ok-or-err)
