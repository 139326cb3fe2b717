-- Each symbol was checked against the count of spellings, and the last line is ended: so the bytes hold both.
use Rattle.intaglio_decode.proofs.Names.{common_steps, length-map, holds-read, known-lines}
use Rattle.std.proofs.Common.{arith}
use Rattle.intaglio_decode.proofs.parts.parse.Goals as goal

pub returns-clause-holds : goal.returns-clause-holds
returns-clause-holds c =
    rw (c.in_ok-spellings.ensures, c.in-Some.ensures.behind)
    (holds-read c.args.bytes.now (omega arith) (grind (arith, common_steps, length-map)))

pub returns-clause-sound : goal.returns-clause-sound
returns-clause-sound c = grind (arith, common_steps, length-map, known-lines)
