-- The quotient by the reciprocal isn't above the true one (`by-reciprocal`), and at most one below it
-- (`by-reciprocal-near`). So the rest is the remainder, or is it after one subtraction.
use Rattle.intaglio_index.proofs.Names.{common_steps}
use Rattle.std.proofs.Common.{◌/◌, ◌*◌, ◌^◌, ◌≤◌, ◌<◌, ◌+◌, arith}
use Rattle.intaglio_index.proofs.Remainders.{by-reciprocal, by-reciprocal-near, rest-is}
use Rattle.intaglio_index.proofs.index.modulus.remainder.Goals as goal

pub overflow_sub-rest : goal.overflow_sub-rest
overflow_sub-rest c = grind (arith, common_steps, by-reciprocal)

pub returns-then-rest-count : goal.returns-then-rest-count
returns-then-rest-count c =
    let below : c.from.result * c.from-2.result / 2 ^ 64 * c.args.count ≤ c.args.hash = grind (arith, common_steps, by-reciprocal) in
    rest-is c.args.hash c.args.count (c.from.result * c.from-2.result / 2 ^ 64) _ (omega (arith, below))
    c.if-rest-count.true

pub returns-else-rest-count : goal.returns-else-rest-count
returns-else-rest-count c =
    let near : c.args.hash < c.from.result * c.from-2.result / 2 ^ 64 * c.args.count + 2 * c.args.count = grind (arith, common_steps, by-reciprocal-near) in
    rest-is c.args.hash c.args.count (c.from.result * c.from-2.result / 2 ^ 64 + 1) _
    (omega (arith, c.if-rest-count.false)) (omega (arith, near, c.if-rest-count.false))
