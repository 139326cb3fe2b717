-- `add` may follow any interned front of whole lines, and what it says of that front is true of the input.
-- The last bytes needn't end a line, because nothing follows them.
use Rattle.std.proofs.Common.{◌∙◌, ap, length}
use Rattle.intaglio_columns.proofs.Names.{IsRefusal}
use Rattle.intaglio_columns.proofs.Interned.{all-interned, more-interned, more-read, none-interned, of-any, said-of-lines}
use Rattle.intaglio_columns.proofs.Parts.{passed-on}
use Rattle.intaglio_columns.proofs.interning.Interned.add_all.Goals as goal

pub loop-init : goal.loop-init
loop-init g c =
    rw c.new-bytes.ensures.items (record { has = none-interned (g.R.Read.remaining c.args.reader.now) c.requires })

pub returns-in_err-more-clause-err : goal.returns-in_err-more-clause-err
returns-in_err-more-clause-err g c =
    passed-on _ c.from_residual.result _ c.from_residual.ensures.1
    (of-any (g.R.Read.remaining c.args.reader.now) (λ input.
    IsRefusal c.args.kind input c.in_err-more.field-0.0) (c.in_err-more.ensures.err c.args.kind))

pub returns-in_err-add-clause-err : goal.returns-in_err-add-clause-err
returns-in_err-add-clause-err g c =
    passed-on _ c.from_residual-in_err-add.result _ c.from_residual-in_err-add.ensures.1
    (said-of-lines (more-read c.loop.invariant.has c.in_ok-more.ensures.read) c.size_of_lines-size.result
    c.deref-in-loop.ensures.value (λ input. IsRefusal c.args.kind input c.in_err-add.field-0.0) c.in_ok-more.more
    (rw c.deref.ensures.value at c.size_of_lines-size.ensures.ended)
    (rw c.deref.ensures.value at c.size_of_lines-size.ensures.all)
    c.in_ok-more.ensures.end c.in_err-add.ensures.err)

pub returns-then-not-more-clause-interned : goal.returns-then-not-more-clause-interned
returns-then-not-more-clause-interned g c =
    all-interned (more-read c.loop.invariant.has c.in_ok-more.ensures.read) c.size_of_lines-size.result
    c.deref-in-loop.ensures.value
    (c.size_of_lines-size.ensures.all c.if-not-more.true ∙ ap length c.deref.ensures.value)
    (c.in_ok-more.ensures.end c.if-not-more.true) _ _ _ c.in_ok-add.ensures.added

pub loop-preserved : goal.loop-preserved
loop-preserved g c =
    rw c.drop_front.ensures (record {
      has = more-interned (more-read c.loop.invariant.has c.in_ok-more.ensures.read) c.size_of_lines-size.result
          c.deref-in-loop.ensures.value
          (rw c.deref.ensures.value at (c.size_of_lines-size.ensures.ended c.if-not-more.false))
          c.in_ok-add.ensures.added;
    })
