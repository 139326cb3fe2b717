-- Hashes don't decrease along a bucket. So at a greater hash, or at the end, no symbol has the sought one
-- (`ends`), and then none at all has (`absent-on`).
use Rattle.std.proofs.Common.{◌<◌, arith}
use Rattle.intaglio_index.proofs.ChainLemmas.{chain-in-order}
use Rattle.intaglio_index.proofs.SearchLemmas.{absent-on, ends, passes, finds, goes-on}
use Rattle.intaglio_index.proofs.WalkLemmas.{within, falls}
use Rattle.intaglio_index.proofs.index.Index.find_along.Goals as goal

pub returns-then-hash-found-clause-none : goal.returns-then-hash-found-clause-none
returns-then-hash-found-clause-none c =
    λ e. absent-on _ _ (ends c.loop-candidate.invariant.reached.1 (chain-in-order _ _)
    (rw c.in-Some.is c.if-hash-found.true))

pub returns-then-hash-found-clause-passed : goal.returns-then-hash-found-clause-passed
returns-then-hash-found-clause-passed c =
    λ e start from. passes (c.loop-candidate.invariant.since start from)

pub returns-then-hash-found-2-clause-found : goal.returns-then-hash-found-2-clause-found
returns-then-hash-found-2-clause-found c = λ start from.
    finds (rw c.in-Some.is at (c.loop-candidate.invariant.since start from))
    c.if-hash-found-2.true

pub next_entry-candidate-requires : goal.next_entry-candidate-requires
next_entry-candidate-requires c =
    within _ _ (rw c.in-Some.is at c.loop-candidate.invariant.reached.1).walk

pub loop-candidate-smaller : goal.loop-candidate-smaller
loop-candidate-smaller c = rw c.in-Some.is
    (falls _ _ (rw c.in-Some.is at c.loop-candidate.invariant.reached.1).walk
    (c.next_entry-candidate.ensures.next _ _))

pub loop-candidate-preserved : goal.loop-candidate-preserved
loop-candidate-preserved c =
    let l : c.in-Some.found.1 < c.args.hash = omega (arith, c.if-hash-found.false, c.if-hash-found-2.false) in
    record {
      reached = (
        c.loop-candidate.invariant.reached.0,
        goes-on (rw c.in-Some.is at c.loop-candidate.invariant.reached.1)
            l c.step.ensures (c.next_entry-candidate.ensures.next _ _),
      );
      since = λ start from. goes-on
          (rw c.in-Some.is at (c.loop-candidate.invariant.since start from)) l c.step.ensures
          (c.next_entry-candidate.ensures.next _ _);
    }

pub returns-clause-none : goal.returns-clause-none
returns-clause-none c =
    λ e. absent-on _ _ (ends c.loop-candidate.invariant.reached.1 (chain-in-order _ _)
    (rw c.in_default.is tt))

pub returns-clause-passed : goal.returns-clause-passed
returns-clause-passed c = λ e start from. passes (c.loop-candidate.invariant.since start from)
