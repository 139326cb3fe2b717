-- Lines behind a line end are the same as alone, so they follow those before, and a fault of theirs is one of
-- the whole input. Dropping the symbols first changes neither the table nor the count.
use Rattle.intaglio_columns.proofs.Names.{common_steps, map-id, issue_from, lines_of, Allows}
use Rattle.std.proofs.Common.{◌≡◌, ◌^◌, ◌+◌, ◌-◌, ◌++◌, [], ◌∷◌, true, min, length, length-append, ap, Err, arith, rules}
use Rattle.intaglio_columns.proofs.Interned.{issue-length, lines-interned, not-allowed, too-many}
use Rattle.intaglio_columns.proofs.interning.Interned.add.Goals as goal

pub returns-then-not-is_allowed-clause-err : goal.returns-then-not-is_allowed-clause-err
returns-then-not-is_allowed-clause-err g c = grind (arith, common_steps, not-allowed)

pub returns-in-Err-Overflow-clause-err : goal.returns-in-Err-Overflow-clause-err
returns-in-Err-Overflow-clause-err g c =
    let old = c.args.self.now.table.state in
    let same : c.forget.new.self.table.state ≡ old = ap (λ t. t.state) c.forget.ensures.table in
    let over =
    rw (
      same,
      map-id old.contents,
    ) at (c.in-Err-Overflow.ensures.overflow
    (ap Err c.in-Err-Overflow.field-0-is)) in
    λ front rest ended whole done.
    omega (
      arith,
      too-many front c.args.lines.now rest ended whole (2 ^ 32) old.contents done.held
          (rw done.limit at over),
    )

pub returns-clause-added : goal.returns-clause-added
returns-clause-added g c =
    let old = c.args.self.now in
    let new = c.intern_more_lines.new.table.state in
    let lines = lines_of c.args.lines.now in
    let same : c.forget.new.self.table.state ≡ old.table.state = ap (λ t. t.state) c.forget.ensures.table in
    let issued = rw (same, map-id old.table.state.contents) at c.in-Ok.ensures.symbols in
    let held = rw (same, map-id old.table.state.contents, map-id new.contents) at c.in-Ok.ensures.held in
    let limit = rw same at c.in-Ok.ensures.limit in
    let symbols : c.args.is_kept ≡ true → c.intern_more_lines.new.symbols.items ≡ old.symbols.items
    ++ issue_from (λ w. w ∷ []) old.table.state.contents lines =
    λ kept. rw (c.forget.ensures.symbols kept) at issued in
    let allowed : Allows c.args.kind c.args.lines.now = search rules in
    let count : c.saturating_add-self.result ≡ min (old.count + length lines) (2 ^ 64 - 1) = grind (arith, common_steps, length-append, issue-length) in
    λ front ended done. lines-interned ended done c.args.lines.now allowed held limit symbols count
