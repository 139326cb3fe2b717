-- The codes so far, over the first places.
use Rattle.std.proofs.Common.{◌≡◌, drop, take}
use Rattle.intaglio_columns.specs.Layout.{codes}
use Rattle.intaglio_columns.proofs.Names.{overlaid}
use Rattle.intaglio_columns.proofs.file.column.Column.copy_codes.Given as goal

abbrev pub invariant-loop-i : goal.invariant-loop-i
invariant-loop-i g l = l.places ≡ overlaid (take l.i (drop l.from (codes l.self))) l.initial.places
