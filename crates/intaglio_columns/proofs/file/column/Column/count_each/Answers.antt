-- A code is missing, or is past the strings, or changes the count of its string alone. If one is past them,
-- the counts needn't add up to the rows, because `all` assumes that there is none.
use Rattle.std.proofs.Common.{arith}
use Rattle.intaglio_columns.proofs.Counted.{tally-missing, tally-other, tally-string}
use Rattle.intaglio_columns.proofs.file.column.Column.count_each.Goals as goal

pub loop-row-preserved-then-code : goal.loop-row-preserved-then-code
loop-row-preserved-then-code g c =
    tally-missing c.read-code.ensures c.loop-row.invariant c.if-code.true (omega (arith, c.len-rows.ensures.few))

pub loop-row-preserved-then-code-of : goal.loop-row-preserved-then-code-of
loop-row-preserved-then-code-of g c =
    tally-other c.read-code.ensures c.loop-row.invariant
    (omega (arith, c.if-code-of.true, c.loop-row.invariant.strings)) c.if-code.false

pub loop-row-preserved : goal.loop-row-preserved
loop-row-preserved g c =
    tally-string c.read-code.ensures c.loop-row.invariant
    (omega (arith, c.if-code-of.false, c.loop-row.invariant.strings)) c.if-code.false
