-- In a whole dictionary each look-up returns the first position, so what was found are the answers.
use Rattle.intaglio_columns.proofs.Names.{lines_of, Writes, answers}
use Rattle.intaglio_columns.proofs.Found.{found-answers, of-input}
use Rattle.intaglio_columns.proofs.look_up.find_lines.Goals as goal

pub returns-clause-written : goal.returns-clause-written
returns-clause-written g c =
    let strings = g.D.Dictionary.strings c.args.table.now in
    let whole = g.D.Dictionary.is_whole c.args.table.now in
    let input = c.in_ok-input.input.items in
    let each = rw c.deref.ensures.value at c.in_ok-found.ensures in
    let wrote = rw c.deref-2.ensures.value at c.in_ok-write_output.ensures.written in
    of-input (g.R.Read.remaining c.args.reader.now) input
    (λ bytes. whole →
    Writes g.W.Write.contents c.args.writer.now c.write_output.new.writer (answers strings bytes))
    c.in_ok-input.ensures.bytes
    (λ is. rw (found-answers strings whole (lines_of input) c.in_ok-found.found.items each is) at wrote)
