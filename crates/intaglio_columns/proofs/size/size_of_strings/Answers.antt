-- Both sizes are folds, to which the next string adds a step. A total that stopped at 2^64 - 1 stays there.
use Rattle.std.proofs.Common.{◌∙◌, ◌+◌, sym, ap, length, max, rules, arith}
use Rattle.intaglio_columns.proofs.Names.{option_copied}
use Rattle.intaglio_columns.proofs.Listed.{fold-next}
use Rattle.intaglio_columns.proofs.size.size_of_strings.Goals as goal

pub loop-number-preserved : goal.loop-number-preserved
loop-number-preserved g c =
    let table = g.D.Dictionary.strings c.args.table.now in
    let string = c.unwrap-string.result.now in
    let at = rw c.new.ensures at (sym c.string_of.ensures ∙ ap option_copied c.unwrap-string.ensures) in
    let bytes = fold-next table c.loop-number.number string at (λ b s. b + length s) 0 in
    let most = fold-next table c.loop-number.number string at (λ m s. max m (length s)) 0 in
    record {
      count = c.loop-number.invariant.count;
      bytes = rw bytes (omega (arith, c.saturating_add.ensures, c.loop-number.invariant.bytes));
      longest = rw most (search rules);
    }
