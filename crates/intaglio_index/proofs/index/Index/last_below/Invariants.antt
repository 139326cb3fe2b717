-- All symbols before the candidate have smaller hashes, and `last` is the one directly before it.
use Rattle.std.proofs.Common.{length}
use Rattle.intaglio_index.proofs.Names.{IsAt, bucket_of}
use Rattle.intaglio_index.proofs.WalkLemmas.{rest_of}
use Rattle.intaglio_index.proofs.index.Index.last_below.Given as goal

abbrev pub invariant-loop-candidate : goal.invariant-loop-candidate
invariant-loop-candidate l = IsAt l.hash (bucket_of l.self l.hash) l.last l.candidate

abbrev pub decreases-loop-candidate : goal.decreases-loop-candidate
decreases-loop-candidate l = length (rest_of (bucket_of l.self l.hash) l.candidate)
