-- What the trusted column says is true of the bytes, which are those of the column. A column has no row that is
-- missing though none may be.
use Rattle.intaglio_columns.specs.Layout.{codes}
use Rattle.intaglio_columns.proofs.Written.{no-gap}
use Rattle.intaglio_columns.proofs.file.column.Column.open.Goals as goal

pub returns-in-Some-first_gap-clause-only : goal.returns-in-Some-first_gap-clause-only
returns-in-Some-first_gap-clause-only c = λ h.
    let gap = rw c.in_ok-column.ensures.bytes at c.in-Some-first_gap.ensures in
    absurd (no-gap (codes c.args.bytes.now) c.in-Some-first_gap.row (h.full gap.0) gap.1)

pub returns-in-Some-first_gap-clause-err : goal.returns-in-Some-first_gap-clause-err
returns-in-Some-first_gap-clause-err c =
    let gap = rw c.in_ok-column.ensures.bytes at c.in-Some-first_gap.ensures in (
      record {
        rows = c.in_ok-column.ensures.rows;
        checksum = cc;
      },
      rw c.in_ok-column.ensures.bytes at c.in_default.ensures,
      gap.0,
      gap.1,
    )

pub returns-in-None-clause-column : goal.returns-in-None-clause-column
returns-in-None-clause-column c = record {
  checksum = record {
    rows = c.in_ok-column.ensures.rows;
    checksum = cc;
  };
  codes = rw c.in_ok-column.ensures.bytes at c.in_default.ensures;
  full = rw c.in_ok-column.ensures.bytes at c.in-None.ensures;
}

pub returns-in-Some-clause-err : goal.returns-in-Some-clause-err
returns-in-Some-clause-err c = (
  record {
    rows = c.in_ok-column.ensures.rows;
    checksum = cc;
  },
  rw c.in_ok-column.ensures.bytes at c.in-Some.ensures,
)

pub returns-in-Some-clause-only : goal.returns-in-Some-clause-only
returns-in-Some-clause-only c = λ h.
    let found = rw c.in_ok-column.ensures.bytes at c.in-Some.ensures in
    absurd (found.3 (h.codes c.in-Some.row found.0 found.1))
