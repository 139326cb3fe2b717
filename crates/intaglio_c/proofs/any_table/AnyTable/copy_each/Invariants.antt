-- The strings of the symbols so far are at the start of the buffer, and their ends are written.
use Rattle.intaglio_c.proofs.Names.{◌≡◌, drop, length, take, seen}
use Rattle.intaglio_c.proofs.Batches.{IsCopied}
use Rattle.intaglio_c.proofs.any_table.AnyTable.copy_each.Given as goal

abbrev pub invariant-loop-i : goal.invariant-loop-i
invariant-loop-i l = record {
  places : length l.ends ≡ length l.symbols;
  copied : IsCopied (seen l.self).state.contents l.initial.buffer (take l.i l.symbols) l.buffer l.start
      (take l.i l.ends);
  rest : drop l.i l.ends ≡ drop l.i l.initial.ends;
}
