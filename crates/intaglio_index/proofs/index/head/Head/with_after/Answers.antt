-- Behind the first symbol the new word is the second one (`head-second`). Further behind, both words stay
-- (`head-stays`). An empty bucket has no predecessor.
use Rattle.std.proofs.Common.{sym, ◌∙◌}
use Rattle.intaglio_index.proofs.Names.{eqb-true, eqb-false}
use Rattle.intaglio_index.proofs.HeadLemmas.{head-second, head-stays, never-behind, nil-leader}
use Rattle.intaglio_index.proofs.index.head.Head.with_after.Goals as goal

pub returns-in-None : goal.returns-in-None
returns-in-None c = λ size s h path is leads apart pred word.
    absurd (never-behind h path c.args.last (nil-leader _ (sym c.in-None.is ∙ leads)) pred)

pub returns-then-eq : goal.returns-then-eq
returns-then-eq c = λ size s h path is leads apart pred word.
    (let same = eqb-true _ _ (sym c.eq.ensures ∙ c.if-eq.true) in
    head-second size s h c.args.word word c.args.self path c.args.last apart is
    (rw same at (sym c.in-Some.is ∙ leads)) pred)

pub returns-else-eq : goal.returns-else-eq
returns-else-eq c = λ size s h path is leads apart pred word.
    head-stays size s h c.args.word word c.args.self path c.in-Some.first c.args.last is (sym c.in-Some.is
    ∙ leads) (eqb-false _ _ (sym c.eq.ensures ∙ c.if-eq.false)) pred
