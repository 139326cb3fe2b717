-- The links from the first symbol lead only to placed symbols, so the first two have hashes, and numbers that
-- the mask leaves room for.
use Rattle.intaglio_index.proofs.Names.{common_steps}
use Rattle.std.proofs.Common.{sym, ◌∙◌, arith}
use Rattle.intaglio_index.proofs.HeadLemmas.{thread-within, thread-next}
use Rattle.intaglio_index.proofs.index.head.Head.read.Goals as goal

pub bounds-hashes-id : goal.bounds-hashes-id
bounds-hashes-id c = rw c.id.ensures (thread-within _ c.requires.linked.1)

pub word-first-requires-clause-below : goal.word-first-requires-clause-below
word-first-requires-clause-below c = grind (arith, common_steps, thread-within)

pub next-requires : goal.next-requires
next-requires c = grind (arith, common_steps, thread-within)

pub bounds-hashes-id-in-Some : goal.bounds-hashes-id-in-Some
bounds-hashes-id-in-Some c =
    rw c.id-in-Some.ensures (thread-next _ c.requires.linked.1 (sym c.next.ensures ∙ c.in-Some.is))

pub word-second-requires-clause-below : goal.word-second-requires-clause-below
word-second-requires-clause-below c = grind (arith, common_steps, thread-next)
