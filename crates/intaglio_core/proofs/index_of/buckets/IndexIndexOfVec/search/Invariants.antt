-- The contents with the hash that come before the candidate were compared, and none has the key. This holds
-- for each function by which the contents may have been hashed.
use Rattle.intaglio_core.proofs.Names.{ℕ, length, Key, AreHashed}
use Rattle.intaglio_core.proofs.Walking.{IsWalking, rest_at}
use Rattle.intaglio_core.proofs.index_of.buckets.IndexIndexOfVec.search.Given as goal

abbrev pub invariant-loop-candidate : goal.invariant-loop-candidate
invariant-loop-candidate g l = record {
  walking : (h : Key → ℕ) →
      AreHashed g.C.Keyed.key h l.list.items l.self.hashes (g.Q.Keyed.key l.sought) l.hash →
      IsWalking g.C.Keyed.key h l.self l.list.items (g.Q.Keyed.key l.sought) l.fn.work.events l.work.events
      l.candidate;
}

abbrev pub decreases-loop-candidate : goal.decreases-loop-candidate
decreases-loop-candidate g l = length (rest_at l.self l.hash l.candidate)
