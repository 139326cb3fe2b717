-- From four bytes on, a shift takes from the last four those that are among the first four (`number-halves`).
-- Of fewer, a byte may be read twice, but for the same place, where `or` leaves it (`number-bytes`).
use Rattle.std.proofs.Common.{length}
use Rattle.intaglio_hash.proofs.NumberLemmas.{number-halves, number-bytes}
use Rattle.intaglio_hash.proofs.hasher.read_short.Goals as goal

pub returns-then-len-ge4 : goal.returns-then-len-ge4
returns-then-len-ge4 c =
    let bs = c.args.bytes.now in
    number-halves bs (λ k. (c.type_inv.bytes k).fits) (length bs) _ _ c.if-len-ge4.true c.requires
    c.read_half-then-len-ge4.ensures c.read_half.ensures

pub returns-then-len-gt0 : goal.returns-then-len-gt0
returns-then-len-gt0 c =
    let bs = c.args.bytes.now in
    number-bytes bs (λ k. (c.type_inv.bytes k).fits) (length bs) c.if-len-gt0.true c.if-len-ge4.false
