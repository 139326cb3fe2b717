-- `first` finds a piece that stays one whatever follows, so what was translated goes on behind it. If a piece
-- fails, what was written is a front of all before it and of its own translation.
use Rattle.intaglio_columns.proofs.Names.{common_steps, drop-drop, take_rest}
use Rattle.std.proofs.Common.{◌-◌, [], ◌∷◌, ap, drop, length, length-drop, take, arith}
use Rattle.intaglio_columns.proofs.Parts.{on-err, one-part, passed-on}
use Rattle.intaglio_columns.proofs.Translated.{group-part, next-misfit, next-translated}
use Rattle.intaglio_columns.proofs.translate.translate_pieces.Goals as goal

pub loop-size-preserved : goal.loop-size-preserved
loop-size-preserved g c =
    let bytes = c.args.bytes.now in
    let at = c.loop-size.at in
    let rest = take (length bytes - at) (drop at bytes) in
    record {
      within = grind (arith, common_steps, take_rest bytes at, length-drop at bytes);
      goes = λ input old left before.
          let done = rw (← take_rest bytes at) at (c.loop-size.invariant.goes input old left before) in
          rw (take_rest bytes at, drop-drop c.in-Some.next at bytes) at (next-translated done
          c.in_ok-count.count (take c.in-Some.size rest) (drop c.in-Some.next rest) (λ more is. c.in-Some.ensures.whole more)
          c.in_ok-count.ensures.fits c.in_ok-count.ensures.put
          (c.put_piece.ensures.front c.in_ok-count.ensures.fits) c.in_ok-count.ensures.count);
    }

pub returns-in_err-count-clause-misfit : goal.returns-in_err-count-clause-misfit
returns-in_err-count-clause-misfit g c =
    let bytes = c.args.bytes.now in
    let at = c.loop-size.at in
    let rest = take (length bytes - at) (drop at bytes) in
    passed-on _ c.from_residual.result _ c.from_residual.ensures.1 (λ input old left before.
    next-misfit (rw (← take_rest bytes at) at (c.loop-size.invariant.goes input old left before))
    _ (take c.in-Some.size rest) (drop c.in-Some.next rest) (λ more is. c.in-Some.ensures.whole more)
    c.in_err-count.ensures.misfit)

pub returns-in_err-count-clause-part : goal.returns-in_err-count-clause-part
returns-in_err-count-clause-part g c =
    let bytes = c.args.bytes.now in
    let at = c.loop-size.at in
    let rest = take (length bytes - at) (drop at bytes) in
    on-err c.from_residual.result (λ input old left before.
    group-part (rw (← take_rest bytes at) at (c.loop-size.invariant.goes input old left before))
    (take c.in-Some.size rest ∷ []) (drop c.in-Some.next rest) (λ more is. c.in-Some.ensures.whole more)
    (one-part c.put_piece.ensures.front (λ unfit. ap g.W.Write.contents (c.put_piece.ensures.unfit unfit))))
