-- The entries of the strings are those of the records (`entries-all`). Of a long index `IsOver` asks nothing
-- of the room, so it holds of any.
use Rattle.std.proofs.Common.{rules, true}
use Rattle.intaglio_records.proofs.EntryLemmas.{entries-all}
use Rattle.intaglio_records.proofs.RecordLemmas.{are-long}
use Rattle.intaglio_records.proofs.index.RecordIndex.make_long.Goals as goal

pub returns-clause-over : goal.returns-clause-over
returns-clause-over c _ =
    let rs = c.buffer.result.now.list in
    record {
      filled = rw (entries-all true _ rs c.buffer.ensures.list (are-long rs c.buffer.ensures.each)) c.in_ok-lines.ensures.filled;
      within = c.requires.1.within;
      places = c.in_ok-lines.ensures.places;
      tight = c.in_ok-lines.ensures.tight;
      short = λ e. search rules;
    }
