-- If the sections are those of the bytes, the reader finds what a look-up does, and in a frozen table that is
-- the first position of the string (`find-is-first`).
use Rattle.std.proofs.Common.{◌∙◌}
use Rattle.intaglio_frozen.proofs.Found.{find-is-first}
use Rattle.intaglio_frozen.proofs.sections.Sections.check_interned.Goals as goal

pub returns-clause-frozen : goal.returns-clause-frozen
returns-clause-frozen c = λ are frozen.
    let is = c.in_ok-reader.ensures in
    let found = rw (is.bytes, is.sections) at c.check_hashed.ensures.block in
    let hashed = rw (is.bytes, is.sections) at c.hash.ensures in
    found are frozen.block (hashed are) ∙ find-is-first c.args.bytes.now c.args.string.now frozen.found
