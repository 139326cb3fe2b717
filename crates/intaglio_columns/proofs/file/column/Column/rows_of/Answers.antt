-- The rows pushed and those still to be found are always all of them: a step moves the first of the latter.
use Rattle.std.proofs.Common.{◌∙◌, ℕ, ◌+◌, ◌==◌, ◌++◌, ap}
use Rattle.intaglio_columns.specs.Layout.{codes}
use Rattle.intaglio_columns.proofs.Names.{rows_of, rows_past}
use Rattle.intaglio_columns.proofs.Past.{more-rows-of}
use Rattle.intaglio_columns.proofs.file.column.Column.rows_of.Goals as goal

pub loop-row-preserved : goal.loop-row-preserved
loop-row-preserved c =
    let p = λ (x : ℕ). x == c.args.code in
    let cs = codes c.args.self.now in
    ap (λ t. t ++ rows_past p (c.in-Some.row + 1) cs) c.in_ok-push.ensures.items
    ∙ more-rows-of p cs c.loop-row.rows.items (rows_of c.args.code cs) c.loop-row.from c.in-Some.row
    c.loop-row.invariant c.in-Some.ensures
