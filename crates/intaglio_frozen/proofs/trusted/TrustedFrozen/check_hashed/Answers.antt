-- In a frozen table the reader finds what `find` does, and that is the first position (`find-is-first`).
use Rattle.std.proofs.Common.{◌∙◌}
use Rattle.intaglio_frozen.proofs.Found.{find-is-first}
use Rattle.intaglio_frozen.proofs.trusted.TrustedFrozen.check_hashed.Goals as goal

pub returns-clause-frozen : goal.returns-clause-frozen
returns-clause-frozen c =
    let bs = c.self.inside.reader.bytes.now in
    let hashed = rw (← c.self.view_is) at c.requires in
    rw (← c.self.view_is) (λ frozen. c.check_hashed.ensures.block c.self.invariant frozen.block hashed
    ∙ find-is-first bs c.args.string.now frozen.found)
