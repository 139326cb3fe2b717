-- What the mask leaves is the remainder by a power of two (`masked`), and the rest is a multiple of it.
use Rattle.intaglio_index.proofs.Names.{common_steps, div-add-mod'}
use Rattle.std.proofs.Common.{arith}
use Rattle.intaglio_index.proofs.Remainders.{masked}
use Rattle.intaglio_index.proofs.index.modulus.Modulus.high.Goals as goal

pub returns : goal.returns
returns c = grind (arith, common_steps, masked, div-add-mod')
