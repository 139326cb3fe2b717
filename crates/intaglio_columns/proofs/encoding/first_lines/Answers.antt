-- The invariant bounds `skip` by what `drop` leaves, and the slice up to the end is just that (`take_rest`).
use Rattle.std.proofs.Common.{◌≡◌, ◌∙◌, ◌+◌, ◌-◌, ◌++◌, [], ◌∷◌, ap, length, arith}
use Rattle.intaglio_columns.proofs.Names.{take_rest}
use Rattle.intaglio_columns.proofs.encoding.first_lines.Goals as goal

pub first_whole_line-requires-clause-within : goal.first_whole_line-requires-clause-within
first_whole_line-requires-clause-within c =
    omega (arith, ap length (take_rest c.args.bytes.now c.loop-skip.size), c.loop-skip.invariant.short)
