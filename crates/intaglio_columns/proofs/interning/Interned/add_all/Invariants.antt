-- Whole lines at the front of what was read are interned.
use Rattle.intaglio_columns.proofs.Names.{HasInterned}
use Rattle.intaglio_columns.proofs.interning.Interned.add_all.Given as goal

abbrev pub invariant-loop : goal.invariant-loop
invariant-loop g l = record {
  has : HasInterned l.kind l.is_kept (g.R.Read.remaining l.initial.reader) (g.R.Read.remaining l.reader)
      l.bytes.items l.self.table.state l.self.symbols.items l.self.count;
}
