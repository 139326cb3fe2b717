-- Up to 48 bytes, two steps come before the last one, and the third step isn't used. Above, three do, and
-- `min` leaves the offsets of the third at 32 and 40.
use Rattle.std.proofs.Common.{◌≡◌, ◌-◌, ◌/◌, length, arith}
use Rattle.std.specs.Hash.FoldHasher.{mix_blocks}
use Rattle.intaglio_hash.proofs.fixed_hasher.after_three.Goals as goal

pub returns-then-len-gt48 : goal.returns-then-len-gt48
unfolding mix_blocks
returns-then-len-gt48 c =
    let steps : (length c.args.bytes.now - 1) / 16 ≡ 3 = omega arith in
    let first : c.min.result ≡ 32 = omega arith in
    let second : c.min-2.result ≡ 40 = omega arith in
    rw (steps, c.mixed-step.ensures, first, second, c.mixed-two.ensures, c.mixed.ensures)

pub returns-else-len-gt48 : goal.returns-else-len-gt48
unfolding mix_blocks
returns-else-len-gt48 c =
    let steps : (length c.args.bytes.now - 1) / 16 ≡ 2 = omega arith in
    rw (steps, c.mixed-two.ensures, c.mixed.ensures)
