-- Both words are those of smaller hashes, so after three steps the search is at the third symbol
-- (`begins-third`), and goes on along the bucket.
use Rattle.std.proofs.Common.{◌≡◌, List, ◌∷◌, [], ◌++◌, ◌%◌}
use Rattle.intaglio_index.proofs.Names.{Event, step, IsReached}
use Rattle.intaglio_index.specs.Placed.{chain}
use Rattle.intaglio_index.proofs.SearchLemmas.{begins-third, second-placed, three-steps, each-some}
use Rattle.intaglio_index.proofs.index.Index.find_behind.Goals as goal
use Rattle.intaglio_index.proofs.index.Index.find_behind.Goals.{After-next_entry}

pub next_entry-requires : goal.next_entry-requires
next_entry-requires c = second-placed _ _ c.requires.behind

reached : (c : After-next_entry) (start : List Event) → c.args.work.now.events ≡ start ++ step ∷ [] →
    IsReached c.args.hash (chain c.args.self.now (c.args.hash % c.args.self.now.count)) start
    c.step-2.new.self.events c.next_entry.result
reached c start begun = begins-third c.requires.behind (c.next_entry.ensures.next _ _)
    (three-steps _ begun c.step.ensures c.step-2.ensures)

pub find_along-requires : goal.find_along-requires
find_along-requires c = (
  c.requires.begun.0,
  reached (goal.at.find_along-requires c).After-next_entry c.requires.begun.0 c.requires.begun.1,
)

pub returns-clause-found : goal.returns-clause-found
returns-clause-found c = each-some _ _ c.find_along.result
    (λ s f start begun. f start (reached (goal.at.returns-clause-found c).After-next_entry start begun))
    c.find_along.ensures.found

pub returns-clause-passed : goal.returns-clause-passed
returns-clause-passed c = λ e start begun. c.find_along.ensures.passed e start
    (reached (goal.at.returns-clause-passed c).After-next_entry start begun)
