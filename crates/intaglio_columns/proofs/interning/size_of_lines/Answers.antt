-- The front of `size` bytes ends with the line feed that was found, which is what `is_ended` asks for.
use Rattle.std.proofs.Common.{◌≡◌, ◌-◌, get_or, rules}
use Rattle.intaglio_columns.proofs.Interned.{ended-take}
use Rattle.intaglio_columns.proofs.interning.size_of_lines.Goals as goal

pub returns-then-bytes-size-eq10-clause-ended : goal.returns-then-bytes-size-eq10-clause-ended
returns-then-bytes-size-eq10-clause-ended c =
    let ten : get_or c.args.bytes.now (c.loop-size.size - 1) 0 ≡ 10 = search rules in
    λ more. ended-take c.args.bytes.now c.loop-size.size (search rules) (search rules) ten
