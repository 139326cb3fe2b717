-- A reply, and the contents after a call, are functions of the call, the contents before it and the limit,
-- unless memory is refused (`runs-alike`).
use Rattle.intaglio_interner.proofs.Alike.{runs-alike}
use Rattle.intaglio.proofs.laws.alike_law.Goals as goal

pub returns : goal.returns
returns g c = runs-alike g.C.Keyed.key g.C.Content.spelling
