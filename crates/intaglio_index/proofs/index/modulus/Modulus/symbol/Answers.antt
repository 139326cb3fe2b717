-- What the mask leaves of a word is its remainder by a power of two (`masked`).
use Rattle.std.proofs.Common.{◌≡◌, ◌+◌, ◌%◌, refl, ◌∙◌}
use Rattle.intaglio_index.proofs.Names.{bit_and}
use Rattle.intaglio_index.proofs.Remainders.{masked}
use Rattle.intaglio_index.proofs.index.modulus.Modulus.symbol.Goals as goal

pub overflow_cast-word : goal.overflow_cast-word
overflow_cast-word c =
    let low : bit_and c.args.word c.args.self.mask ≡ c.args.word % (c.args.self.mask + 1) =
    masked c.args.word (c.args.self.mask + 1) c.args.self.mask c.requires.made.power refl in
    rw low record { fits = c.requires.number }

pub returns : goal.returns
returns c =
    c.new.ensures ∙ masked c.args.word (c.args.self.mask + 1) c.args.self.mask c.requires.made.power refl
