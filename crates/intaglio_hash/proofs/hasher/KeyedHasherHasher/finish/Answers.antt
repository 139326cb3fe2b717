-- The steps are those of std's `finish`, each as its contract says: the last word, 255 mixed into v2, three
-- rounds, and the exclusive or of the four words.
use Rattle.std.proofs.Common.{ap, ◌∙◌}
use Rattle.std.specs.Hash.DefaultHasher.{round, write_word, finish}
use Rattle.intaglio_hash.proofs.PushLemmas.{last_word, with_end_mark, xor_of_words}
use Rattle.intaglio_hash.proofs.hasher.KeyedHasherHasher.finish.Goals as goal

pub returns : goal.returns
unfolding finish
returns c =
    let absorbed =
    c.state.view_is ∙ c.write_word.ensures ∙ ap (λ s. write_word s (last_word s)) c.self.view_is in
    let first = c.round.ensures ∙ ap (λ s. round (with_end_mark s)) absorbed in
    let third = c.round-3.ensures ∙ ap round (c.round-2.ensures ∙ ap round first) in
    ap xor_of_words (c.state-2.view_is ∙ third)
