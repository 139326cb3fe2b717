-- Each symbol is known, so its line is the spelling of its number, and what is put grows by that.
use Rattle.intaglio_decode.proofs.Names.{common_steps, length-map}
use Rattle.std.proofs.Common.{◌∙◌, sym, arith}
use Rattle.intaglio_lines.proofs.Appended.{Appends-append}
use Rattle.intaglio_decode.proofs.Symbols.{symbol_lines-more}
use Rattle.intaglio_decode.proofs.parts.PartsOutput.put_all.Goals as goal

pub unwrap-symbol-requires : goal.unwrap-symbol-requires
unwrap-symbol-requires g c =
    let more = symbol_lines-more c.loop-rest.rest.now _ c.first_line.result.1.now c.first_line.ensures.lines
    (sym c.is_empty-in-loop-rest.ensures ∙ c.if-is_empty.false) in
    grind (arith, common_steps, rw more at c.loop-rest.invariant.known)

pub spelling-requires : goal.spelling-requires
spelling-requires g c =
    let more = symbol_lines-more c.loop-rest.rest.now _ c.first_line.result.1.now c.first_line.ensures.lines
    (sym c.is_empty-in-loop-rest.ensures ∙ c.if-is_empty.false) in
    grind (arith, common_steps, rw more at c.loop-rest.invariant.known, length-map, c.args.self.now.spellings.ok.0)

pub loop-rest-preserved : goal.loop-rest-preserved
loop-rest-preserved g c =
    let more = symbol_lines-more c.loop-rest.rest.now _ c.first_line.result.1.now c.first_line.ensures.lines
    (sym c.is_empty-in-loop-rest.ensures ∙ c.if-is_empty.false) in
    let known = rw more at c.loop-rest.invariant.known in
    record {
      known = known.1;
      put = (
        _,
        Appends-append _ _ _ _ _ c.loop-rest.invariant.put.1 c.in_ok-put_line.ensures.put,
        grind (arith, common_steps, known.0, length-map, c.args.self.now.spellings.ok.0, c.loop-rest.invariant.put.2, more),
      );
    }
