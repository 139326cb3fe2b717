-- A hasher takes bytes one by one, so what it is given in parts counts as given at once. The format hashes
-- the codes, and then the header with zeros for the checksum.
use Rattle.std.proofs.Common.{◌∙◌, arith, ap, drop, sym}
use Rattle.intaglio_columns.proofs.Names.{finish, length-take-le, take_rest}
use Rattle.std.specs.Hash.DefaultHasher.{write}
use Rattle.intaglio_columns.proofs.Checksums.{of-parts}
use Rattle.intaglio_columns.proofs.file.checksum.checksum_of.Goals as goal

pub slice_bounds-write-end-2 : goal.slice_bounds-write-end-2
slice_bounds-write-end-2 c = sym (length-take-le 56 c.args.bytes.now (omega (arith, c.requires)))

pub returns-clause-sum : goal.returns-clause-sum
returns-clause-sum c =
    let bs = c.args.bytes.now in
    let start = c.write.ensures ∙ ap (write c.with_keys-hasher.result) (take_rest bs 128)
    ∙ ap (λ t. write t (drop 128 bs)) c.with_keys-hasher.ensures in
    c.finish.ensures
    ∙ ap finish (of-parts _ _ _ _ _ _ _ _ _ start c.write-2.ensures c.write-3.ensures c.write-4.ensures)

pub returns-clause-small : goal.returns-clause-small
returns-clause-small c = rw (returns-clause-sum c) at c.finish.type_inv
