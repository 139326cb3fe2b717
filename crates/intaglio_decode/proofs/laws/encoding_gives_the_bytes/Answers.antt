-- Symbols that are issued in order are issued again for the lines that they stand for.
use Rattle.intaglio_decode.proofs.Names.{key_of}
use Rattle.intaglio_decode.proofs.InOrder.{encodes-decoded}
use Rattle.intaglio_decode.proofs.laws.encoding_gives_the_bytes.Goals as goal

pub returns : goal.returns
returns c = λ kind symbols spellings bytes holds issued.
    encodes-decoded (key_of kind) spellings issued.distinct symbols bytes holds issued.order
