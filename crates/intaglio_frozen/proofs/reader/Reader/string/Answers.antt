-- The ends may be any numbers, but a range that `get` returns is part of the text (`part-found`).
use Rattle.intaglio_frozen.proofs.Names.{common_steps}
use Rattle.std.proofs.Common.{arith}
use Rattle.intaglio_frozen.proofs.Places.{part-found}
use Rattle.intaglio_frozen.proofs.reader.Reader.string.Goals as goal

pub returns-clause-found : goal.returns-clause-found
returns-clause-found c = grind (arith, common_steps, part-found)
