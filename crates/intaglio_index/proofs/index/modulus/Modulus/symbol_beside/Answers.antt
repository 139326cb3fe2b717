-- The word and the hash differ under the mask alone, where the bucket is the hash. So the xor of the three is
-- what the word has there (`low-beside`).
use Rattle.std.proofs.Common.{◌∙◌}
use Rattle.intaglio_index.proofs.Words.{low-beside}
use Rattle.intaglio_index.proofs.index.modulus.Modulus.symbol_beside.Goals as goal

pub overflow_cast-word : goal.overflow_cast-word
overflow_cast-word c =
    rw (low-beside c.args.self.mask c.args.word c.args.hash c.args.bucket c.requires.made.power
    c.requires.agree c.requires.bucket) record { fits = c.requires.number }

pub returns : goal.returns
returns c = c.new.ensures
    ∙ low-beside c.args.self.mask c.args.word c.args.hash c.args.bucket c.requires.made.power c.requires.agree
    c.requires.bucket
