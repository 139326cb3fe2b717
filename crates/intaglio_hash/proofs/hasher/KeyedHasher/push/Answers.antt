-- `after_push` branches as the code does: the bytes stay in the tail (`after_push-within`), or they fill a
-- word, which is written, and what is left of them is the tail (`after_push-over`).
use Rattle.std.proofs.Common.{◌+◌, ◌*◌, ◌/◌, ◌%◌, ◌-◌, ◌^◌, bit_or, ap, ◌∙◌, sym}
use Rattle.std.specs.Hash.DefaultHasher.{wrapping_add, round, write_word}
use Rattle.intaglio_hash.specs.Push.{with_tail}
use Rattle.intaglio_hash.proofs.PushLemmas.{after_push-within, after_push-over}
use Rattle.intaglio_hash.proofs.hasher.KeyedHasher.push.Goals as goal

pub returns-then-held-count-lt8-clause-value : goal.returns-then-held-count-lt8-clause-value
returns-then-held-count-lt8-clause-value c =
    let x = c.args.number in
    let n = c.args.count in
    ap (λ s. with_tail s (bit_or s.tail ((x * 2 ^ (8 * (s.length % 8))) % 2 ^ 64)) (wrapping_add s.length n))
    c.self.view_is
    ∙ sym (after_push-within c.args.self.now x n (ap (λ s. s.length % 8 + n) c.self.view_is)
    c.if-held-count-lt8.true)

pub returns-else-held-count-lt8-clause-value : goal.returns-else-held-count-lt8-clause-value
unfolding write_word round
returns-else-held-count-lt8-clause-value c =
    let x = c.args.number in
    let n = c.args.count in
    let k = c.self.inside.length % 8 in
    ap (λ s. with_tail s (x / 2 ^ 8 / 2 ^ (56 - 8 * k)) s.length) (c.self-else-held-count-lt8.view_is
    ∙ c.write_word.ensures)
    ∙ ap (λ s. with_tail (write_word s (bit_or s.tail ((x * 2 ^ (8 * (s.length % 8))) % 2 ^ 64)))
    (x / 2 ^ 8 / 2 ^ (56 - 8 * (s.length % 8))) (wrapping_add s.length n)) c.self.view_is
    ∙ sym (after_push-over c.args.self.now x n (ap (λ s. s.length % 8 + n) c.self.view_is)
    c.if-held-count-lt8.false)
