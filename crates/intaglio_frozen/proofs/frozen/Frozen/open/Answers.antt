-- Each test is one part of `IsFrozen`. Bytes that pass all are a frozen table, and a test that fails shows
-- the fault that its error names.
use Rattle.std.proofs.Common.{rules, ◌≡◌, false, true, inr, subst}
use Rattle.intaglio_frozen.proofs.Names.{HasId, IsFrozen}
use Rattle.intaglio_frozen.proofs.frozen.Frozen.open.Goals as goal

pub returns-in-Some-first_no_text-clause-err : goal.returns-in-Some-first_no_text-clause-err
returns-in-Some-first_no_text-clause-err c =
    rw c.in_ok-block.ensures.read at c.in-Some-first_no_text.ensures.fault

pub returns-then-not-has_id-clause-err : goal.returns-then-not-has_id-clause-err
returns-then-not-has_id-clause-err c =
    let not : HasId c.args.bytes.now → false ≡ true =
    rw c.in_ok-block.ensures.read at c.if-not-has_id.ensures.1 in
    inr (c.in_ok-block.ensures.block, λ has. let no = not has in cc)

pub invariant_of-result : goal.invariant_of-result
invariant_of-result c = record {
  block = search rules;
  unused = search rules;
  found = search rules;
  texts = c.first_no_text.ensures.texts c.in_default-first_no_text.is;
  id = search rules;
}

pub returns-clause-frozen : goal.returns-clause-frozen
returns-clause-frozen c = subst IsFrozen c.in_ok-block.ensures.read (invariant_of-result c)
