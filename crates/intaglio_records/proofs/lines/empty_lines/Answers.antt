-- A turn adds an empty line behind the others: the last place has it, and each other the line that it had.
use Rattle.intaglio_records.proofs.Names.{common_steps, cases_lt, length-append, get_or_append_left}
use Rattle.std.proofs.Common.{[], ◌∷◌, length, ap, ◌∙◌, arith}
use Rattle.intaglio_records.proofs.lines.empty_lines.Goals as goal

pub loop-i-preserved : goal.loop-i-preserved
loop-i-preserved c =
    let old = c.loop-i.lines.items in
    let was = c.loop-i.invariant.lines in
    let items = c.push_reserved.ensures.items in
    record {
      lines = record {
        size = ap length items ∙ omega (arith, length-append old (c.empty.result ∷ []), was.size);
        each = λ i lt. grind (arith, common_steps, cases_lt i c.loop-i._i, items, get_or_append_left, was.each i);
      };
      room = omega (arith, c.push_reserved.ensures.capacity, c.loop-i.invariant.room);
    }
