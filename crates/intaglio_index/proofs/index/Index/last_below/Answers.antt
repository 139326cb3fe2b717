-- A candidate is a placed symbol (`within`). Each step leaves less of the bucket (`falls`).
use Rattle.intaglio_index.proofs.WalkLemmas.{within, falls, goes-on}
use Rattle.intaglio_index.proofs.index.Index.last_below.Goals as goal

pub next_entry-candidate-requires : goal.next_entry-candidate-requires
next_entry-candidate-requires c = within _ _ (rw c.in-Some.is at c.loop-candidate.invariant).walk

pub loop-candidate-smaller : goal.loop-candidate-smaller
loop-candidate-smaller c =
    rw c.in-Some.is (falls _ _ (rw c.in-Some.is at c.loop-candidate.invariant).walk
    (c.next_entry-candidate.ensures.next _ _))

pub loop-candidate-preserved : goal.loop-candidate-preserved
loop-candidate-preserved c =
    goes-on (rw c.in-Some.is at c.loop-candidate.invariant) c.if-hash-found.false
    (c.next_entry-candidate.ensures.next _ _)
