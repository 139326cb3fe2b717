-- By the invariant strings are found at their symbols, so look-ups find first positions (`found-first`).
use Rattle.std.proofs.Common.{◌≡◌}
use Rattle.intaglio_frozen.proofs.Found.{found-first}
use Rattle.intaglio_frozen.proofs.frozen.Frozen.check_all.Goals as goal

pub returns : goal.returns
returns c =
    rw (← c.self.view_is, ← found-first (λ s. s.now) c.self.inside.block c.args.strings.now c.self.invariant.found) c.find_all.ensures
