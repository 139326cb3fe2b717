-- The string of the next symbol is item `number` of the dictionary, so its line follows those that were put.
use Rattle.std.proofs.Common.{◌∙◌, sym, ap, refl, arith}
use Rattle.intaglio_columns.proofs.Names.{option_copied, spelling_line, take_all}
use Rattle.intaglio_columns.proofs.Listed.{appends-next}
use Rattle.intaglio_columns.proofs.strings.ListingOutput.put_all.Goals as goal

pub loop-number-preserved : goal.loop-number-preserved
loop-number-preserved g c =
    let at = rw c.new.ensures at (sym c.string_of.ensures ∙ ap option_copied c.unwrap-string.ensures) in
    appends-next (g.D.Dictionary.strings c.args.self.now.table.now) c.loop-number.number
    c.unwrap-string.result.now at spelling_line _ _ _ _ refl c.loop-number.invariant
    c.in_ok-put_line.ensures.put

pub returns : goal.returns
returns g c =
    rw (take_all c.loop-number.number (g.D.Dictionary.strings c.args.self.now.table.now)
    (omega (arith, c.len-number-end.ensures, c.loop-number-test.false))) at c.loop-number.invariant
