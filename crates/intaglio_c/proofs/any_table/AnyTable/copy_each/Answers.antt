-- Each turn copies one string more: its bytes come behind those so far, and its end behind their ends.
use Rattle.intaglio_c.proofs.Names.{common_steps, sym, ap, ◌∙◌, arith, slice_get, seen}
use Rattle.intaglio_c.proofs.Batches.{copied_more, first_copied, rest_next, too_short}
use Rattle.intaglio_c.proofs.any_table.AnyTable.copy_each.Goals as goal

pub returns-then-buffer-start : goal.returns-then-buffer-start
returns-then-buffer-start c = record {
  copied = (
    c.loop-i.i,
    c.in-Some.bytes.now,
    c.loop-i-test.true,
    ap (slice_get (seen c.args.self.now).state.contents) (sym c.new.ensures) ∙ sym c.in-Some.ensures.bytes,
    first_copied _ _ c.args.symbols.now _ _ c.args.ends.now _ _ c.loop-i.invariant.copied
        c.loop-i.invariant.rest,
    too_short _ _ _ c.loop-i.buffer _ c.loop-i.start _ c.loop-i.invariant.copied c.if-buffer-start.true,
  );
}

pub loop-i-preserved : goal.loop-i-preserved
loop-i-preserved c = grind (arith, common_steps, copied_more, slice_get, seen, rest_next)
