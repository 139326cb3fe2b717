-- Bytes are read in one way, so they are decoded to one output.
use Rattle.intaglio_decode.proofs.Names.{one-output}
use Rattle.intaglio_decode.proofs.laws.decoding_is_a_function.Goals as goal

pub returns : goal.returns
returns c = one-output
