-- The bits are those of the first line's entries with the tag (`picked-fresh`), and all overflow lines of the
-- class are still to come. By `are-found` these have the slots of class and tag, each once.
use Rattle.intaglio_records.proofs.Names.{common_steps, first_line, overflow, newest}
use Rattle.std.proofs.Common.{◌≡◌, ◌<◌, length, arith, mod-lt}
use Rattle.intaglio_records.proofs.LineLemmas.{tag-some}
use Rattle.intaglio_records.proofs.Placing.{first-is}
use Rattle.intaglio_records.proofs.Searching.{bits-within, picked-fresh}
use Rattle.intaglio_records.proofs.Finding.{are-found}
use Rattle.intaglio_records.proofs.lines.Lines.find.Goals as goal

pub returns-clause-left : goal.returns-clause-left
returns-clause-left c es filled =
    let lines = c.args.self.now in
    let base = lines.base in
    let first = c.class-first.result in
    let tag = c.tag_of-tag.result in
    let os = overflow base es in
    let F = first_line base first es in
    let some : 0 < base = omega (arith, c.if-self-eq0.false) in
    let within : first < base = rw c.class-first.ensures (mod-lt c.args.hash some) in
    let x = c.index-line.result.now in
    let read = first-is lines es filled first within x c.index-line.ensures in
    let all : c.deref-2.result.now ≡ lines.lines.items = c.deref-2.ensures.value in
    let tagged : 0 < tag = rw c.tag_of-tag.ensures (tag-some c.args.hash) in
    let b = c.equal.ensures in
    let fresh = picked-fresh c.equal.result tag x.tags x.slots F read.entries (λ i lt. b.bits i (omega (arith, lt, read.few))) in
    record {
      base = base;
      class = first;
      count = length F;
      behind = os;
      some = tagged;
      few = read.few;
      bits = λ i lt set. bits-within x F (newest base first os) c.equal.result tag read tagged b.bits
          b.above i set;
      line = λ more. rw all (omega (arith, within, filled.chains.size));
      based = some;
      size = λ more. rw all (omega (arith, filled.chains.size));
      next = c.next.ensures F (newest base first os) read;
      lines = rw all filled.chains.behind;
      left_is = grind (arith, common_steps);
    }

pub returns-clause-found : goal.returns-clause-found
returns-clause-found c es filled =
    are-found c.args.self.now.base c.args.hash es (omega (arith, c.if-self-eq0.false))
