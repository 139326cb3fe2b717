-- std's definition mixes the word in before the round and after it, as the code does. The contract of `round`
-- stands between the two.
use Rattle.std.proofs.Common.{ap, ◌∙◌}
use Rattle.std.specs.Hash.DefaultHasher.{round, write_word}
use Rattle.intaglio_hash.proofs.PushLemmas.{before_round, after_round}
use Rattle.intaglio_hash.proofs.hasher.KeyedHasher.write_word.Goals as goal

pub returns : goal.returns
unfolding write_word
returns c =
    let m = c.args.word in
    ap (after_round m) (c.self-2.view_is ∙ c.round.ensures)
    ∙ ap (λ s. after_round m (round (before_round m s))) c.self.view_is
