-- A number masked by a power of two minus one is its remainder by that power.
use Rattle.intaglio_index.proofs.Remainders.{masked}
use Rattle.intaglio_index.proofs.index.modulus.Modulus.masked.Goals as goal

pub returns : goal.returns
returns c = masked c.args.hash c.args.self.count c.args.self.mask c.requires.made.power c.requires.power
