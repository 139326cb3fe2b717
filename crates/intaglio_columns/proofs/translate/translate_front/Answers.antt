-- An error of `put_front` is passed on as it is. It was said of a slice, and that is all of the vector.
use Rattle.intaglio_columns.proofs.Parts.{on-err, passed-on}
use Rattle.intaglio_columns.proofs.translate.translate_front.Goals as goal

pub returns-in_err-size-clause-misfit : goal.returns-in_err-size-clause-misfit
returns-in_err-size-clause-misfit g c =
    passed-on _ c.from_residual.result _ c.from_residual.ensures.1
    (rw (← c.deref.ensures.value) c.in_err-size.ensures.misfit)

pub returns-in_err-size-clause-part : goal.returns-in_err-size-clause-part
returns-in_err-size-clause-part g c =
    on-err c.from_residual.result (rw (← c.deref.ensures.value) c.in_err-size.ensures.part)
