-- The nine appends are rewritten from the last to the first, and then only the brackets of `++` differ.
use Rattle.std.proofs.Common.{append_assoc}
use Rattle.intaglio_columns.proofs.file.writing.put_start.Goals as goal

pub returns : goal.returns
returns c =
    let kind = rw c.kind_number.ensures at c.in_ok-put_u32-2.ensures in
    let width = rw c.bytes.ensures at c.in_ok-put_u32-3.ensures in
    rw (
      c.in_ok-put_u32-4.ensures,
      width,
      c.in_ok-put_u64-5.ensures,
      c.in_ok-put_u64-4.ensures,
      c.in_ok-put_u64-3.ensures,
      c.in_ok-put_u64-2.ensures,
      kind,
      c.in_ok-put_u32.ensures,
      c.in_ok-put_u64.ensures,
    ) (simp append_assoc)
