-- std writes the list of this one byte. A push of one byte leaves the same state (`after_push-fold`).
use Rattle.std.proofs.Common.{◌≡◌, ◌+◌, ◌*◌, [], ◌∷◌, ap, ◌∙◌, arith, refl}
use Rattle.std.specs.Hash.DefaultHasher.{write}
use Rattle.intaglio_hash.specs.Push.{after_push}
use Rattle.intaglio_hash.proofs.PushLemmas.{after_push-fold, one-byte}
use Rattle.intaglio_hash.proofs.hasher.KeyedHasherHasher.write_u8.Goals as goal

pub returns : goal.returns
unfolding write
returns c =
    let s = c.args.self.now in
    let i = c.args.i in
    let same : i ≡ i + 256 * 0 = omega arith in
    c.push.ensures.value ∙ ap (λ x. after_push s x 1) same
    ∙ after_push-fold (i ∷ []) 0 1 (one-byte i c.ranges.i.fits) s s refl c.push.ensures.fits (omega arith)
    (omega arith)
