-- What `find` returns is on a chain, so it is a placed symbol with that hash (`entry-placed`).
use Rattle.intaglio_index.proofs.SearchLemmas.{each-some, entry-placed}
use Rattle.intaglio_index.proofs.index.Index.peek.Goals as goal

pub returns-clause-placed : goal.returns-clause-placed
returns-clause-placed c = each-some _ _ c.find.result
    (λ s f. (entry-placed _ _ s _ f.front f.behind f.split).0) c.find.ensures.found

pub returns-clause-hash : goal.returns-clause-hash
returns-clause-hash c = each-some _ _ c.find.result
    (λ s f. (entry-placed _ _ s _ f.front f.behind f.split).1) c.find.ensures.found
