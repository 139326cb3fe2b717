-- A group's lines begin the rest of the bytes whatever follows them, so what was translated goes on behind
-- them. If the group fails, what was written is a front of all before it and of a part of its codes.
use Rattle.intaglio_columns.proofs.Names.{common_steps, drop-drop, length-map, take_rest}
use Rattle.std.proofs.Common.{◌+◌, ◌-◌, ap, drop, length, map, refl, take, arith}
use Rattle.intaglio_columns.proofs.Parts.{on-err, passed-on}
use Rattle.intaglio_columns.proofs.Translated.{group-misfit, group-part, group-translated, kept-part}
use Rattle.intaglio_columns.proofs.encoding.Encoding.put_lines.Goals as goal

pub loop-at-preserved : goal.loop-at-preserved
loop-at-preserved g c =
    let bytes = c.args.bytes.now in
    let at = c.loop-at.at in
    let group = c.in_ok-group.group in
    let put = rw c.deref.ensures.value at c.in_ok-count.ensures in
    record {
      within = grind (arith, common_steps, take_rest bytes at);
      goes = λ input old left before.
          let done = rw (← take_rest bytes at) at (c.loop-at.invariant.goes input old left before) in
          rw (take_rest bytes at, drop-drop group.size at bytes) at (group-translated done
          c.in_ok-count.count (map (λ line. line.now) group.lines.items)
          (drop group.size (take (length bytes - at) (drop at bytes)))
          (λ more is. c.in_ok-group.ensures.whole more) put.fit put.put put.front
          (omega (arith, put.count, length-map group.lines.items (λ line. line.now))));
      few = omega arith;
      skip = refl;
    }

pub returns-in_err-count-clause-misfit : goal.returns-in_err-count-clause-misfit
returns-in_err-count-clause-misfit g c =
    let bytes = c.args.bytes.now in
    let at = c.loop-at.at in
    let group = c.in_ok-group.group in
    passed-on _ c.from_residual-in_err-count.result _ c.from_residual-in_err-count.ensures.1 (λ input old left before.
    group-misfit (rw (← take_rest bytes at) at (c.loop-at.invariant.goes input old left before)) _
    (map (λ line. line.now) group.lines.items) (drop group.size (take (length bytes - at) (drop at bytes)))
    (λ more is. c.in_ok-group.ensures.whole more) (rw c.deref.ensures.value at c.in_err-count.ensures.misfit))

pub first_lines-requires-clause-within : goal.first_lines-requires-clause-within
first_lines-requires-clause-within g c =
    omega (arith, ap length (take_rest c.args.bytes.now c.loop-at.at), c.loop-at.invariant.few)

pub returns-in_err-count-clause-part : goal.returns-in_err-count-clause-part
returns-in_err-count-clause-part g c =
    let bytes = c.args.bytes.now in
    let at = c.loop-at.at in
    let group = c.in_ok-group.group in
    on-err c.from_residual-in_err-count.result (λ input old left before.
    group-part (rw (← take_rest bytes at) at (c.loop-at.invariant.goes input old left before))
    (map (λ line. line.now) group.lines.items) (drop group.size (take (length bytes - at) (drop at bytes)))
    (λ more is. c.in_ok-group.ensures.whole more) (rw c.deref.ensures.value at c.in_err-count.ensures.part))

pub returns-in_err-group-clause-part : goal.returns-in_err-group-clause-part
returns-in_err-group-clause-part g c =
    on-err c.from_residual.result (λ input old left before.
    kept-part (c.loop-at.invariant.goes input old left before))
