-- Up to 16 bytes, no step comes before the last one, and the step isn't used. Above, one does, and `min`
-- leaves its second offset at 8.
use Rattle.std.proofs.Common.{◌≡◌, ◌-◌, ◌/◌, length, arith}
use Rattle.std.specs.Hash.FoldHasher.{mix_blocks}
use Rattle.intaglio_hash.proofs.fixed_hasher.after_one.Goals as goal

pub returns-then-len-gt16 : goal.returns-then-len-gt16
unfolding mix_blocks
returns-then-len-gt16 c =
    let steps : (length c.args.bytes.now - 1) / 16 ≡ 1 = omega arith in
    let second : c.min.result ≡ 8 = omega arith in
    rw (steps, c.mixed-step.ensures, second)

pub returns-else-len-gt16 : goal.returns-else-len-gt16
unfolding mix_blocks
returns-else-len-gt16 c =
    let steps : (length c.args.bytes.now - 1) / 16 ≡ 0 = omega arith in
    rw steps
