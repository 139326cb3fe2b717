-- A symbol of at least `i` is that of a new string (`added`), so the strings so far are distinct, and the
-- table has them. A lower one is that of an equal string before (`again`), so this pair is the first.
use Rattle.intaglio_frozen.proofs.Names.{common_steps, slice_get_within}
use Rattle.std.proofs.Common.{◌≡◌, ◌∙◌, length, take, ap, arith, length-take-le, take_all}
use Rattle.intaglio_frozen.proofs.Distinct.{added, again, none-equal}
use Rattle.intaglio_frozen.proofs.HashedAhead.{take_there}
use Rattle.intaglio_frozen.proofs.equal.equal_strings.Goals as goal

pub loop-i-preserved : goal.loop-i-preserved
loop-i-preserved g c =
    let ws = g.L.StringList.strings c.args.list.now in
    let i = c.loop-i.i in
    let w = c.string.result.now in
    let below = slice_get_within ws i w c.string.ensures in
    let size : length c.loop-i.table.state.contents ≡ i =
    ap length c.loop-i.invariant.contents ∙ length-take-le i ws (omega (arith, below)) in
    let new = added c.loop-i.table.state c.get_or_intern.new.self.state w c.in_ok-symbol.symbol
    c.in_ok-symbol.ensures.step (omega (arith, size, c.id.ensures, c.if-id-i.false)) in
    record {
      contents = grind (arith, common_steps, take_there ws i w c.string.ensures);
      distinct = c.in_ok-symbol.ensures.valid.distinct;
    }

pub returns-then-id-i : goal.returns-then-id-i
returns-then-id-i g c =
    let ws = g.L.StringList.strings c.args.list.now in
    let below = rw c.id.ensures at c.if-id-i.true in
    rw c.id-then-id-i.ensures (
      again ws c.loop-i.table.state c.get_or_intern.new.self.state c.loop-i.i
          c.in_ok-symbol.symbol c.string.result.now
          c.loop-i.invariant.contents c.string.ensures below c.in_ok-symbol.ensures.interned.kept
          c.in_ok-symbol.ensures.interned.stored,
      none-equal (take c.loop-i.i ws) (rw c.loop-i.invariant.contents at c.loop-i.invariant.distinct),
    )

pub returns : goal.returns
returns g c =
    let ws = g.L.StringList.strings c.args.list.now in
    let all = c.loop-i.invariant.contents
    ∙ take_all c.loop-i.i ws (omega (arith, c.loop-i-test.false, c.len-i-end.ensures)) in
    none-equal ws (rw all at c.loop-i.invariant.distinct)
