-- No bit is left, so the slots left are those of overflow lines. The bits of the next one pick its entries
-- with the tag (`next-line`, `picked-fresh`), and it leads to an older line, of a lower number.
use Rattle.intaglio_records.proofs.Names.{common_steps, bit_at, bit_at-zero, newest, no_line}
use Rattle.std.proofs.Common.{length, get_or, ap, ◌∙◌, arith}
use Rattle.intaglio_records.proofs.ChainLemmas.{newest-at}
use Rattle.intaglio_records.proofs.Searching.{next-line, next-inside, picked-none, picked-fresh}
use Rattle.intaglio_records.proofs.search.Candidates.advance.Goals as goal

pub offset_bounds-self-self : goal.offset_bounds-self-self
offset_bounds-self-self c = grind (arith, common_steps, next-inside c.args.self.now c.requires.search.0 c.requires.search.1 c.requires.more)

pub bounds-self-self : goal.bounds-self-self
bounds-self-self c = next-inside c.args.self.now c.requires.search.0 c.requires.search.1 c.requires.more

pub returns-clause-left : goal.returns-clause-left
returns-clause-left c left is =
    let s = c.args.self.now in
    let there = next-line is.base is.class s.tag s.next s.lines.now is.behind is.lines is.next
    (omega (arith, c.requires.more)) in
    let b = c.equal-self.ensures in
    let old = picked-none s.equal (get_or s.lines.now s.line no_line).slots is.count (λ i lt. ap (λ n. bit_at n i) c.requires.done ∙ bit_at-zero i) in
    let fresh = picked-fresh c.equal-self.result s.tag (get_or s.lines.now s.next no_line).tags _ there.0
    there.2.entries (λ i lt. b.bits i (omega (arith, lt, there.2.few))) in
    record {
      base = is.base;
      class = is.class;
      count = length there.0;
      behind = there.1;
      some = is.some;
      few = there.2.few;
      bits = grind (arith, common_steps);
      line = λ some. next-inside s left is c.requires.more;
      based = is.based;
      size = λ some. omega (arith, is.size (omega (arith, there.5)), there.5);
      next = c.next.ensures there.0 (newest is.base is.class there.1) there.2;
      lines = there.3;
      left_is = grind (arith, is.left_is, old, there.4, fresh);
    }

pub returns-clause-older : goal.returns-clause-older
returns-clause-older c =
    let s = c.args.self.now in let is = c.requires.search.1 in
    let there = next-line is.base is.class s.tag s.next s.lines.now is.behind is.lines is.next
    (omega (arith, c.requires.more)) in
    omega (arith, c.next.ensures there.0 (newest is.base is.class there.1) there.2, (newest-at is.base is.class there.1).1, is.based)
