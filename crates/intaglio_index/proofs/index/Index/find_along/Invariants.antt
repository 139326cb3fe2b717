-- The search is at the candidate, and has made a step for each symbol up to it. The clauses are about any
-- events from which the arguments were reached, and `since` says this for all of them.
use Rattle.std.proofs.Common.{List, length}
use Rattle.intaglio_index.proofs.Names.{Event, IsReached, bucket_of}
use Rattle.intaglio_index.proofs.WalkLemmas.{rest_of}
use Rattle.intaglio_index.proofs.index.Index.find_along.Given as goal

abbrev pub invariant-loop-candidate : goal.invariant-loop-candidate
invariant-loop-candidate l = record {
  reached : (start : List Event) × IsReached l.hash (bucket_of l.self l.hash) start l.work.events l.candidate;
  since : (start : List Event) →
      IsReached l.hash (bucket_of l.self l.hash) start l.fn.work.events l.fn.candidate →
      IsReached l.hash (bucket_of l.self l.hash) start l.work.events l.candidate;
}

abbrev pub decreases-loop-candidate : goal.decreases-loop-candidate
decreases-loop-candidate l = length (rest_of (bucket_of l.self l.hash) l.candidate)
