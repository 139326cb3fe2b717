-- An error of the merge is right for each kind. One of freezing is about the merged strings, the union.
use Rattle.std.proofs.Common.{subst}
use Rattle.intaglio_frozen.specs.Freezing.{HasKeysFor, IsTableOf}
use Rattle.intaglio_columns.proofs.Parts.{passed-on}
use Rattle.intaglio_columns.proofs.merging.frozen_union.Goals as goal

pub returns-in_err-merged-clause-err : goal.returns-in_err-merged-clause-err
returns-in_err-merged-clause-err g c =
    passed-on _ c.from_residual.result _ c.from_residual.ensures.1 (c.in_err-merged.ensures.err c.args.kind)

pub returns-in_err-bytes-clause-err : goal.returns-in_err-bytes-clause-err
returns-in_err-bytes-clause-err g c =
    passed-on _ c.from_residual-in_err-bytes.result _ c.from_residual-in_err-bytes.ensures.1
    (rw (← c.in_ok-merged.ensures.union) c.in_err-bytes.ensures.err)

pub frozen_list-requires : goal.frozen_list-requires
frozen_list-requires g c = c.requires

pub returns-clause-table : goal.returns-clause-table
returns-clause-table g c =
    subst (λ t. IsTableOf c.args.kind t c.in_ok-bytes.bytes.items) c.in_ok-merged.ensures.union c.in_ok-bytes.ensures.table

pub returns-clause-place : goal.returns-clause-place
returns-clause-place g c = c.in_ok-bytes.ensures.place

pub returns-clause-keyed : goal.returns-clause-keyed
returns-clause-keyed g c =
    subst (λ t. HasKeysFor c.args.keys t c.in_ok-bytes.bytes.items) c.in_ok-merged.ensures.union c.in_ok-bytes.ensures.keyed

pub returns-clause-maps : goal.returns-clause-maps
returns-clause-maps g c = c.in_ok-merged.ensures.maps
