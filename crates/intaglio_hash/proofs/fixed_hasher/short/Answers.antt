-- From four bytes on, the halves that are read are the numbers that std reads (`number-half`). In each case
-- the tests of the length in std's definition come out as the branch that was taken.
use Rattle.std.proofs.Common.{length, ◌-◌}
use Rattle.std.proofs.lemmas.Bool.{le-leb, lt-leb, lt-ltb, le-ltb}
use Rattle.std.specs.Hash.FoldHasher.{read_short}
use Rattle.intaglio_hash.proofs.FoldLemmas.{number-half}
use Rattle.intaglio_hash.proofs.fixed_hasher.short.Goals as goal

pub returns-then-len-ge4 : goal.returns-then-len-ge4
unfolding read_short
returns-then-len-ge4 c =
    let bs = c.args.bytes.now in
    let half = number-half bs (λ k. (c.type_inv.bytes k).fits) in
    rw (
      c.read_half.ensures,
      c.read_half-then-len-ge4.ensures,
      half 0,
      half (length bs - 4),
      le-leb 4 (length bs) c.if-len-ge4.true,
    )

pub returns-then-len-gt0 : goal.returns-then-len-gt0
unfolding read_short
returns-then-len-gt0 c =
    let n = length c.args.bytes.now in
    rw (lt-leb 4 n c.if-len-ge4.false, lt-ltb 0 n c.if-len-gt0.true)

pub returns-else-len-gt0 : goal.returns-else-len-gt0
unfolding read_short
returns-else-len-gt0 c =
    let n = length c.args.bytes.now in
    rw (lt-leb 4 n c.if-len-ge4.false, le-ltb 0 n c.if-len-gt0.false)
