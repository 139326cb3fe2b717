-- The interned lines are the distinct lines of the input (`held`). So the table is of these, and why they have
-- none is what `frozen_list` says.
use Rattle.intaglio_frozen.specs.Freezing.{IsRefusal as IsTableRefusal}
use Rattle.intaglio_columns.proofs.Names.{distinct_lines}
use Rattle.intaglio_columns.proofs.Coded.{if-some}
use Rattle.intaglio_columns.proofs.Parts.{passed-on}
use Rattle.intaglio_columns.proofs.freezing.frozen_input.Goals as goal

pub returns-in_err-bytes-clause-err : goal.returns-in_err-bytes-clause-err
returns-in_err-bytes-clause-err g c =
    passed-on _ c.from_residual-in_err-bytes.result _ c.from_residual-in_err-bytes.ensures.1
    (if-some (g.R.Read.remaining c.args.reader.now) _ (λ input.
    IsTableRefusal c.args.kind (distinct_lines input) c.in_err-bytes.field-0.0)
    (λ input made. rw made.held at c.in_err-bytes.ensures.err) c.in_ok-made.ensures.interned)

pub returns-clause-table : goal.returns-clause-table
returns-clause-table g c =
    if-some (g.R.Read.remaining c.args.reader.now) _ _
    (λ input made. (
      rw made.held at c.in_ok-bytes.ensures.table,
      c.in_ok-bytes.ensures.place.shards,
      rw made.held at c.in_ok-bytes.ensures.keyed,
    )) c.in_ok-made.ensures.interned

pub returns-clause-symbols : goal.returns-clause-symbols
returns-clause-symbols g c = λ kept.
    if-some (g.R.Read.remaining c.args.reader.now) _ _ (λ input made. made.issued kept) c.in_ok-made.ensures.interned

pub returns-clause-count : goal.returns-clause-count
returns-clause-count g c =
    if-some (g.R.Read.remaining c.args.reader.now) _ _ (λ input made. made.counted) c.in_ok-made.ensures.interned

pub returns-clause-allowed : goal.returns-clause-allowed
returns-clause-allowed g c =
    if-some (g.R.Read.remaining c.args.reader.now) _ _ (λ input made. made.allowed) c.in_ok-made.ensures.interned
