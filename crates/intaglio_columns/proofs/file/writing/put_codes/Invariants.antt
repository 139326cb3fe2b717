-- The codes so far were added, and are symbols or missing.
use Rattle.std.proofs.Common.{◌≡◌, ◌++◌, take}
use Rattle.intaglio_columns.proofs.Names.{flat_map, AreCodesBefore, code_bytes}
use Rattle.intaglio_columns.proofs.file.writing.put_codes.Given as goal

abbrev pub invariant-loop-row : goal.invariant-loop-row
invariant-loop-row g l = record {
  added : l.bytes.items ≡ l.initial.bytes.items ++ flat_map (code_bytes l.width)
      (take l.row (g.L.CodeList.codes l.codes));
  known : AreCodesBefore l.row l.strings (g.L.CodeList.codes l.codes);
}
