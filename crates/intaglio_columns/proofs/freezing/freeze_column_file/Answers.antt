-- The table and its column are made of what was interned, which is the input's distinct lines and their
-- symbols. For `order`: wherever the table is written, the column was written whole before it.
use Rattle.std.proofs.Common.{◌≡◌, inr, refl, subst, ℕ, List, Option, Some, None, IfSome}
use Rattle.intaglio_frozen.specs.Freezing.{IsTableOf}
use Rattle.intaglio_lines.specs.Puts.{Writes}
use Rattle.intaglio_columns.specs.Frozen.{IsColumnOf, WritesColumn, line_symbols}
use Rattle.intaglio_columns.proofs.Names.{FrozenKind, distinct_lines}
use Rattle.intaglio_columns.proofs.Coded.{if-some}
use Rattle.intaglio_columns.proofs.freezing.freeze_column_file.Goals as goal

-- a column of the symbols of the lines that is written is that of the input
column-written : {V : Type 0} (kind : FrozenKind) (input : Option (List ℕ)) (contents : V → Option (List ℕ)) (old new : V)
    (table symbols : List ℕ) → IfSome input (λ bytes. IsTableOf kind (distinct_lines bytes) table)
    → IfSome input (λ bytes. symbols ≡ line_symbols bytes)
    → (file : List ℕ) × IsColumnOf table symbols file × Writes contents old new file
    → IfSome input (λ bytes. WritesColumn kind bytes contents old new)
column-written kind None contents old new table symbols made issued column = tt
column-written kind (Some bytes) contents old new table symbols made issued column =
    (table, column.0, made, subst (λ s. IsColumnOf table s column.0) issued column.1, column.2)

pub returns-in_err-write_whole-clause-order : goal.returns-in_err-write_whole-clause-order
returns-in_err-write_whole-clause-order g c =
    inr (column-written c.args.kind (g.R.Read.remaining c.args.reader.now) g.V.Write.contents c.args.column.now
    c.write_column.new.column c.in_ok-bytes.bytes.items c.in_ok-bytes.symbols.items
    (if-some (g.R.Read.remaining c.args.reader.now) _ _ (λ input made. made.0) c.in_ok-bytes.ensures.table)
    (c.in_ok-bytes.ensures.symbols refl)
    (rw (c.deref.ensures.value, c.deref-2.ensures.value) at c.in_ok-write_column.ensures.column))

pub returns-clause-column : goal.returns-clause-column
returns-clause-column g c =
    column-written c.args.kind (g.R.Read.remaining c.args.reader.now) g.V.Write.contents c.args.column.now
    c.write_column.new.column c.in_ok-bytes.bytes.items c.in_ok-bytes.symbols.items
    (if-some (g.R.Read.remaining c.args.reader.now) _ _ (λ input made. made.0) c.in_ok-bytes.ensures.table)
    (c.in_ok-bytes.ensures.symbols refl)
    (rw (c.deref.ensures.value, c.deref-2.ensures.value) at c.in_ok-write_column.ensures.column)

pub returns-clause-order : goal.returns-clause-order
returns-clause-order g c = inr (returns-clause-column g c)
