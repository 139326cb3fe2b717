-- Without buckets nothing is placed (`no-buckets`), so the chain is empty. What is on a chain follows from
-- the hashes alone (`chain-bucket`).
use Rattle.intaglio_index.proofs.Names.{common_steps, eqb-true}
use Rattle.std.proofs.Common.{arith}
use Rattle.intaglio_index.proofs.ChainLemmas.{chain-bucket, none-placed}
use Rattle.intaglio_index.proofs.LinkLemmas.{no-buckets}
use Rattle.intaglio_index.proofs.index.Index.first.Goals as goal

pub returns-then-is_empty-clause-first : goal.returns-then-is_empty-clause-first
returns-then-is_empty-clause-first c = grind (arith, common_steps, eqb-true, no-buckets, none-placed)

pub returns-then-is_empty-clause-bucket : goal.returns-then-is_empty-clause-bucket
returns-then-is_empty-clause-bucket c = chain-bucket _ _

pub returns-clause-bucket : goal.returns-clause-bucket
returns-clause-bucket c = chain-bucket _ _
