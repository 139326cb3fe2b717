-- The first fault is that of the first line, if it has one, or else that of the lines behind it.
use Rattle.intaglio_decode.proofs.Names.{common_steps}
use Rattle.std.proofs.Common.{arith}
use Rattle.intaglio_decode.proofs.Symbols.{symbol_lines-more, reports-or}
use Rattle.intaglio_decode.proofs.parts.check_symbols.Goals as goal

pub returns-in_err-check_symbol-clause-fault : goal.returns-in_err-check_symbol-clause-fault
returns-in_err-check_symbol-clause-fault c =
    let more = symbol_lines-more c.loop-rest.rest.now _ c.first_line.result.1.now c.first_line.ensures.lines in
    grind (arith, common_steps, more, reports-or, c.in_err-check_symbol.ensures.fault)

pub loop-rest-preserved : goal.loop-rest-preserved
loop-rest-preserved c =
    let more = symbol_lines-more c.loop-rest.rest.now _ c.first_line.result.1.now c.first_line.ensures.lines in
    grind (arith, common_steps, more)
