-- A pair of keys that gives no bytes leaves a group no places, and shows that no two strings are equal. The
-- loop only ends after all eight.
use Rattle.intaglio_frozen.proofs.Names.{common_steps, LacksPlaces}
use Rattle.std.proofs.Common.{arith}
use Rattle.intaglio_frozen.proofs.freezing.freeze_near.Goals as goal

pub loop-attempt-preserved : goal.loop-attempt-preserved
loop-attempt-preserved g c =
    let ws = g.L.StringList.strings c.args.list.now in
    let lack : LacksPlaces ws c.args.key0 c.args.key1 c.loop-attempt.attempt =
    c.in_ok-bytes.ensures.none c.in_default.is in
    record {
      lack = grind (arith, common_steps);
      distinct = λ _. c.in_ok-bytes.ensures.distinct c.in_default.is;
    }

pub returns-clause-none : goal.returns-clause-none
returns-clause-none g c =
    λ _ n l. c.loop-attempt.invariant.lack n (omega (arith, l, c.loop-attempt-test.false))

pub returns-clause-distinct : goal.returns-clause-distinct
returns-clause-distinct g c =
    λ _. c.loop-attempt.invariant.distinct (omega (arith, c.loop-attempt-test.false))
