-- Each clause is a part of `file-is`, which reads back all that `assemble` wrote. That no row is missing
-- where none may be isn't a part of it, and comes from `check_full`.
use Rattle.std.proofs.Common.{◌∙◌, ap, subst}
use Rattle.intaglio_columns.proofs.Names.{file_of, IsHeaderOf, RowSource}
use Rattle.intaglio_columns.proofs.Written.{file-is}
use Rattle.intaglio_columns.proofs.file.writing.sourced_column_bytes.Goals as goal

pub check_full-requires : goal.check_full-requires
check_full-requires g c =
    let e = c.in_ok-bytes.ensures in
    let file = file-is _ c.of.ensures c.len.ensures c.requires e.few e.ranges e.small e.known e.bytes in
    rw c.deref.ensures.value file.checksum.rows

pub returns-in-Err-clause-err : goal.returns-in-Err-clause-err
returns-in-Err-clause-err g c =
    let e = c.in_ok-bytes.ensures in
    let file = file-is _ c.of.ensures c.len.ensures c.requires e.few e.ranges e.small e.known e.bytes in
    let shards = ap (λ (s : RowSource). s.shards) file.header.source in
    rw (c.deref.ensures.value, ← shards, ← file.header.id.count, file.same_codes) at c.in-Err.ensures.err

pub returns-in-Ok-clause-bytes : goal.returns-in-Ok-clause-bytes
returns-in-Ok-clause-bytes g c =
    let e = c.in_ok-bytes.ensures in
    let file = file-is _ c.of.ensures c.len.ensures c.requires e.few e.ranges e.small e.known e.bytes in
    e.bytes ∙ ap (λ h. file_of h (g.L.CodeList.codes c.args.codes.now)) file.same

pub returns-in-Ok-clause-column : goal.returns-in-Ok-clause-column
returns-in-Ok-clause-column g c =
    let e = c.in_ok-bytes.ensures in
    let file = file-is _ c.of.ensures c.len.ensures c.requires e.few e.ranges e.small e.known e.bytes in
    record {
      checksum = file.checksum;
      codes = file.known;
      full = rw c.deref.ensures.value at c.in-Ok.ensures.full;
    }

pub returns-in-Ok-clause-codes : goal.returns-in-Ok-clause-codes
returns-in-Ok-clause-codes g c =
    let e = c.in_ok-bytes.ensures in
    (file-is _ c.of.ensures c.len.ensures c.requires e.few e.ranges e.small e.known e.bytes).same_codes

pub returns-in-Ok-clause-header : goal.returns-in-Ok-clause-header
returns-in-Ok-clause-header g c =
    let e = c.in_ok-bytes.ensures in
    let file = file-is _ c.of.ensures c.len.ensures c.requires e.few e.ranges e.small e.known e.bytes in
    subst (IsHeaderOf c.in_ok-bytes.bytes.items) file.same file.header

pub returns-in-Ok-clause-id : goal.returns-in-Ok-clause-id
returns-in-Ok-clause-id g c =
    let e = c.in_ok-bytes.ensures in
    (file-is _ c.of.ensures c.len.ensures c.requires e.few e.ranges e.small e.known e.bytes).header.id
