-- Here the bucket doesn't give the low bits of a hash, so a word that agrees is confirmed by the stored hash.
-- If that differs, the search walks along the bucket from its first symbol.
use Rattle.intaglio_index.proofs.Names.{common_steps, eqb-false, Placed, bucket_of, IsReached}
use Rattle.std.proofs.Common.{◌≡◌, ◌+◌, ◌%◌, length, ap, ◌∙◌, arith, inl}
use Rattle.intaglio_index.proofs.FilterLemmas.{marked-some}
use Rattle.intaglio_index.proofs.HeadLemmas.{count-is, numbered, is-occupied, second-within}
use Rattle.intaglio_index.proofs.SearchLemmas.{IsRead, begins, head-absent, head-behind, word-first, word-second, word-within, two-steps, each-some, hash-read}
use Rattle.intaglio_index.proofs.index.Index.find_by_remainder.Goals as goal
use Rattle.intaglio_index.proofs.index.Index.find_by_remainder.Goals.{After-agrees, After-first_entry}

read : (c : After-agrees) →
    IsRead c.args.self.now c.args.hash (c.self.inside.modulus.mask + 1) c.index-head.result.now
    c.matching_word-word.result
read c = grind (arith, common_steps, count-is c.self.view_is c.self.invariant, eqb-false, is-occupied c.self.view_is c.self.invariant, marked-some)

pub returns-then-hash-head-clause-none : goal.returns-then-hash-head-clause-none
returns-then-hash-head-clause-none c =
    λ e. head-absent (read (goal.at.returns-then-hash-head-clause-none c).After-agrees)
    c.agrees.result c.if-not-agrees.true c.agrees.ensures.1 c.then-hash-head.either

pub returns-then-hash-head-clause-passed : goal.returns-then-hash-head-clause-passed
returns-then-hash-head-clause-passed c = λ e. record { more = 0; few = omega arith; events = c.step.ensures }

pub symbol-requires-clause-number : goal.symbol-requires-clause-number
symbol-requires-clause-number c =
    let all = (goal.at.symbol-requires-clause-number c).After-agrees in
    omega (arith, second-within (read all).occupied, numbered c.self.view_is c.self.invariant)

pub find_behind-requires : goal.find_behind-requires
find_behind-requires c = grind (arith, common_steps, head-behind, read)

pub symbol-symbol-requires-clause-number : goal.symbol-symbol-requires-clause-number
symbol-symbol-requires-clause-number c =
    let all = (goal.at.symbol-symbol-requires-clause-number c).After-agrees in
    omega (arith, word-within (read all), numbered c.self.view_is c.self.invariant)

pub index-requires-2 : goal.index-requires-2
index-requires-2 c =
    let all = (goal.at.index-requires-2 c).After-agrees in
    omega (arith, word-within (read all), ap (λ (v : Placed). length v.hashes) c.self.view_is)

reached : (c : After-first_entry) →
    IsReached c.args.hash (bucket_of c.args.self.now c.args.hash) c.args.work.now.events
    c.step.new.self.events c.first_entry.result
reached c =
    let at : c.bucket-bucket.result ≡ c.args.hash % c.args.self.now.count = c.bucket-bucket.ensures
    ∙ ap (λ n. c.args.hash % n) (c.self.invariant.counted ∙ ap (λ (v : Placed). v.count) c.self.view_is) in
    begins c.step.ensures (rw at at c.first_entry.ensures)

pub find_along-requires : goal.find_along-requires
find_along-requires c = (_, reached (goal.at.find_along-requires c).After-first_entry)

pub returns-then-index-hash-clause-found : goal.returns-then-index-hash-clause-found
returns-then-index-hash-clause-found c = each-some _ _ c.find_along.result
    (λ s f. f _ (reached (goal.at.returns-then-index-hash-clause-found c).After-first_entry))
    c.find_along.ensures.found

pub returns-then-index-hash-clause-passed : goal.returns-then-index-hash-clause-passed
returns-then-index-hash-clause-passed c = grind (arith, common_steps, reached)

pub returns-then-word-head-clause-found : goal.returns-then-word-head-clause-found
returns-then-word-head-clause-found c =
    let all = (goal.at.returns-then-word-head-clause-found c).After-agrees in
    let hash = hash-read c.args.self.now.hashes _ _ _ (word-within (read all))
    (rw (← c.self.view_is) c.index-2.ensures) (c.id.ensures ∙ c.symbol-symbol.ensures) ∙ c.if-index-hash.false in
    rw c.symbol-symbol.ensures (word-first (read all) (c.agrees.ensures.0 c.if-not-agrees.false)
    (inl hash) _ _ c.if-word-head.true c.step.ensures)

pub returns-clause-found : goal.returns-clause-found
returns-clause-found c =
    let all = (goal.at.returns-clause-found c).After-agrees in
    let hash = hash-read c.args.self.now.hashes _ _ _ (word-within (read all))
    (rw (← c.self.view_is) c.index-2.ensures) (c.id.ensures ∙ c.symbol-symbol.ensures) ∙ c.if-index-hash.false in
    rw c.symbol-symbol.ensures (word-second (read all) (c.agrees.ensures.0 c.if-not-agrees.false)
    (inl hash) _ _ c.if-word-head.false (two-steps _ c.step.ensures c.step-2.ensures))
