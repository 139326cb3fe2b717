-- The symbol fits under the mask, so adding it fills cleared bits alone. The sum has the hash's high bits
-- (`word-is`), and 64 bits in total (`word-fits`).
use Rattle.intaglio_index.proofs.Names.{common_steps}
use Rattle.std.proofs.Common.{◌+◌, arith}
use Rattle.intaglio_index.proofs.Words.{word-is, word-fits}
use Rattle.intaglio_index.proofs.index.modulus.Modulus.word.Goals as goal

pub overflow_add-result : goal.overflow_add-result
overflow_add-result c =
    rw (c.high.ensures, c.from.ensures, c.id.ensures) record {
      fits = word-fits c.args.hash c.args.symbol (c.args.self.mask + 1) c.requires.made.power
          (omega (arith, c.requires.made.fits)) c.ranges.hash.fits c.requires.below;
    }

pub returns-clause-word : goal.returns-clause-word
returns-clause-word c = grind (arith, common_steps, word-is)
