-- The codes of the lines so far were put.
use Rattle.std.proofs.Common.{◌++◌, map, take}
use Rattle.intaglio_columns.proofs.Names.{flat_map, Appends, append_known, IsFront, encoded_line, has_code, AllFit}
use Rattle.intaglio_columns.proofs.encoding.Encoding.put_each.Given as goal

abbrev pub invariant-loop-i : goal.invariant-loop-i
invariant-loop-i g l = record {
  fit : AllFit (has_code (g.D.Dictionary.strings l.self.table.now) l.self.missing)
      (take l.i (map (λ line. line.now) l.lines));
  put : Appends (append_known (g.W.Write.contents l.initial.writer) l.initial.block.items)
      (append_known (g.W.Write.contents l.writer) l.block.items)
      (flat_map (encoded_line (g.D.Dictionary.strings l.self.table.now))
      (take l.i (map (λ line. line.now) l.lines)));
  front : IsFront (g.W.Write.contents l.initial.writer) (g.W.Write.contents l.writer)
      (l.initial.block.items ++ flat_map (encoded_line (g.D.Dictionary.strings l.self.table.now))
      (take l.i (map (λ line. line.now) l.lines)));
}
