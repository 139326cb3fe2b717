-- The numbers so far were added.
use Rattle.std.proofs.Common.{◌≡◌, ◌+◌, ◌≤◌, ◌++◌, length, map, take, vec_len, vec_capacity}
use Rattle.intaglio_columns.specs.Layout.{codes}
use Rattle.intaglio_columns.proofs.joining.add_map.Given as goal

abbrev pub invariant-loop-row : goal.invariant-loop-row
invariant-loop-row l = record {
  added : l.joined.items ≡ l.initial.joined.items ++ map (λ k. l.start + k) (take l.row (codes l.numbers));
  room : vec_len l.joined + length (codes l.numbers) ≤ vec_capacity l.joined + l.row;
}
