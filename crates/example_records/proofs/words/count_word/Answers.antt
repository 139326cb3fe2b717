-- A symbol past the counts is new, so it is the next number, at which 1 is pushed. Other words have other
-- symbols, and the counts at these stay.
use Rattle.std.proofs.Common.{rules, arith, ap, refl, sym, ◌∙◌, ◌≡◌, length, ◌+◌, [], ◌∷◌, ◌++◌, slice_set, length-append}
use Rattle.std.proofs.Math.Seq.{get_or-append_seam}
use Rattle.std.proofs.lemmas.List.{get_or-set_other, get_or_append_left}
use Rattle.example_records.proofs.AtSymbols.{new-word, others-kept}
use Rattle.example_records.proofs.words.count_word.Goals as goal

pub returns-then-i-len-clause-others : goal.returns-then-i-len-clause-others
returns-then-i-len-clause-others c =
    others-kept c.args.texts.now.state c.get_or_intern.new.self.state c.args.counts.now.items
    (slice_set c.reserve.new.self.items c.id-i.result c.saturating_add.result) c.args.word.now c.id-i.result
    (rw c.id-i.ensures c.in_ok-symbol.ensures.interned.found) c.in_ok-symbol.ensures.interned.others
    (λ k other lt.
    rw (c.in_ok-reserve.ensures.items)
    (get_or-set_other c.args.counts.now.items c.id-i.result k c.saturating_add.result 0 other))

pub returns-else-i-len-clause-beside : goal.returns-else-i-len-clause-beside
returns-else-i-len-clause-beside c =
    let next = new-word c.args.texts.now.state c.get_or_intern.new.self.state c.args.word.now
    c.in_ok-symbol.symbol _ refl c.in_ok-symbol.ensures.step
    (omega arith) in
    let pushed : c.push.new.self.items ≡ c.args.counts.now.items ++ 1 ∷ [] = search rules in
    rw (next.2, pushed, length-append c.args.counts.now.items (1 ∷ [])) (ap (λ n. n + 1) c.requires.beside)

pub returns-else-i-len-clause-counted : goal.returns-else-i-len-clause-counted
returns-else-i-len-clause-counted c =
    let next = new-word c.args.texts.now.state c.get_or_intern.new.self.state c.args.word.now
    c.in_ok-symbol.symbol _ refl c.in_ok-symbol.ensures.step
    (omega arith) in
    let pushed : c.push.new.self.items ≡ c.args.counts.now.items ++ 1 ∷ [] = search rules in
    let last : c.in_ok-symbol.symbol ≡ length c.args.counts.now.items = next.1 ∙ sym c.requires.beside in
    rw (
      next.0,
      c.in_ok-symbol.ensures.interned.found,
      last,
      pushed,
    ) (get_or-append_seam c.args.counts.now.items 1 [] 0)

pub returns-else-i-len-clause-others : goal.returns-else-i-len-clause-others
returns-else-i-len-clause-others c =
    let pushed : c.push.new.self.items ≡ c.args.counts.now.items ++ 1 ∷ [] = search rules in
    others-kept c.args.texts.now.state c.get_or_intern.new.self.state c.args.counts.now.items
    c.push.new.self.items c.args.word.now c.in_ok-symbol.symbol c.in_ok-symbol.ensures.interned.found
    c.in_ok-symbol.ensures.interned.others
    (λ k other lt.
    rw pushed (get_or_append_left c.args.counts.now.items (1 ∷ []) 0 k (rw c.requires.beside lt)))
