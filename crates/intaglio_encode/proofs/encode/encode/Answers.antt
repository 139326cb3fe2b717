-- The bytes that were read are all of the input, if that is known, so what `encode_input` says holds of it.
use Rattle.intaglio_encode.proofs.Known.{of-input}
use Rattle.intaglio_encode.proofs.encode.encode.Goals as goal

pub returns-clause-zero : goal.returns-clause-zero
returns-clause-zero g c =
    of-input (g.R.Read.remaining c.args.reader.now) _ _ _ c.in_ok-input.ensures.bytes c.deref.ensures.value
    c.encode_input.ensures.zero

pub returns-clause-accepts : goal.returns-clause-accepts
returns-clause-accepts g c =
    of-input (g.R.Read.remaining c.args.reader.now) _ _ _ c.in_ok-input.ensures.bytes c.deref.ensures.value
    c.encode_input.ensures.accepts
