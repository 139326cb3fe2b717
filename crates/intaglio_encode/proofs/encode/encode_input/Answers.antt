-- The input is allowed where `encode_allowed` is called, and that never returns `NotUtf8`.
use Rattle.std.proofs.Common.{rules}
use Rattle.intaglio_lines.specs.Kind.{Allows, is_fit}
use Rattle.intaglio_lines.specs.LineForms.{AllLinesFit}
use Rattle.intaglio_encode.proofs.Accepted.{encodes, writes-if-both}
use Rattle.intaglio_encode.proofs.encode.encode_input.Goals as goal

pub returns-clause-written : goal.returns-clause-written
returns-clause-written g c = c.encode_allowed.ensures.written

pub returns-clause-not_utf8 : goal.returns-clause-not_utf8
returns-clause-not_utf8 g c = λ e. absurd (rw e at c.encode_allowed.ensures.err)

pub returns-clause-zero : goal.returns-clause-zero
returns-clause-zero g c = c.encode_allowed.ensures.zero

pub returns-clause-accepts : goal.returns-clause-accepts
returns-clause-accepts g c =
    let allowed : Allows c.args.kind c.args.input.now = search rules in
    writes-if-both (Allows c.args.kind c.args.input.now) (AllLinesFit (is_fit c.args.kind) c.args.input.now)
    _ _ _ allowed c.encode_allowed.ensures.fit

pub returns-clause-overflow : goal.returns-clause-overflow
returns-clause-overflow g c = c.encode_allowed.ensures.overflow

pub returns-clause-nothing_written : goal.returns-clause-nothing_written
returns-clause-nothing_written g c = c.encode_allowed.ensures.nothing_written

pub returns-clause-err : goal.returns-clause-err
returns-clause-err g c = encodes _ c.encode_allowed.ensures.err
