-- The costs say which keys are hashed and compared, and how many symbols are placed. Each event that the law
-- excludes would add a key or a placement too many, or a key that isn't allowed.
use Rattle.intaglio.proofs.Costly.{searches-are-cheap, internings-are-cheap}
use Rattle.intaglio.proofs.laws.cost_law.Goals as goal

pub returns-clause-search : goal.returns-clause-search
returns-clause-search g c = searches-are-cheap

pub returns-clause-intern : goal.returns-clause-intern
returns-clause-intern g c = λ hash k old new. internings-are-cheap g.C.Keyed.key hash old k new
