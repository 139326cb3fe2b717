-- The two words that are read are the numbers that std reads there (`number-word`).
use Rattle.intaglio_hash.proofs.FoldLemmas.{number-word}
use Rattle.intaglio_hash.proofs.fixed_hasher.mixed.Goals as goal

pub returns : goal.returns
returns c =
    let bs = c.args.bytes.now in
    let word = number-word bs (λ k. (c.type_inv.bytes k).fits) in
    rw (c.folded.ensures, c.read_word.ensures, c.read_word-2.ensures, word c.args.first, word c.args.second)
