-- std writes the bytes one by one. By `after_push-fold`, each push leads from the state after the bytes
-- before it to the state after its own, and the last push to the state after all.
use Rattle.std.proofs.Common.{◌+◌, ◌-◌, length, ap, ◌∙◌, arith, refl}
use Rattle.std.specs.Hash.DefaultHasher.{write_byte, write}
use Rattle.std.specs.List.{fold}
use Rattle.std.proofs.lemmas.List.{take_all}
use Rattle.intaglio_hash.specs.Push.{after_push}
use Rattle.intaglio_hash.proofs.PushLemmas.{after_push-fold}
use Rattle.intaglio_hash.proofs.hasher.KeyedHasherHasher.write.Goals as goal

pub returns-then-bytes-lt8 : goal.returns-then-bytes-lt8
unfolding write
returns-then-bytes-lt8 c =
    let bs = c.args.bytes.now in
    let s = c.args.self.now in
    c.push.ensures.value ∙ ap (λ x. after_push s x (length bs)) c.read_short.ensures
    ∙ after_push-fold bs 0 (length bs) (λ k. (c.type_inv.bytes k).fits) s s refl c.push.ensures.fits
    (omega arith) (omega arith)
    ∙ ap (fold write_byte s) (take_all (0 + length bs) bs (omega arith))

pub loop-at-preserved : goal.loop-at-preserved
loop-at-preserved c =
    let bs = c.args.bytes.now in
    let at = c.loop-at.at in
    let s = c.loop-at.state in (
      omega arith,
      c.push-in-loop-at.ensures.value ∙ ap (λ x. after_push s x 8) c.read_word.ensures
          ∙ after_push-fold bs at 8 (λ k. (c.type_inv.bytes k).fits) c.args.self.now s c.loop-at.invariant.1
          c.push-in-loop-at.ensures.fits (omega arith) (omega arith),
    )

pub returns : goal.returns
unfolding write
returns c =
    let bs = c.args.bytes.now in
    let at = c.loop-at.at in
    let s = c.loop-at.state in
    c.push-2.ensures.value ∙ ap (λ x. after_push s x (length bs - at)) c.read_last.ensures
    ∙ after_push-fold bs at (length bs - at) (λ k. (c.type_inv.bytes k).fits) c.args.self.now s
    c.loop-at.invariant.1 c.push-2.ensures.fits (omega arith) (omega arith)
    ∙ ap (fold write_byte c.args.self.now) (take_all (at + (length bs - at)) bs (omega arith))
