-- The number of buckets is a power of two (`exact`), so a word and its bucket give the whole hash, and a word
-- that agrees is a hit. If none agrees, the second word tells whether the hash may be behind it.
use Rattle.intaglio_index.proofs.Names.{common_steps}
use Rattle.std.proofs.Common.{◌≡◌, ◌+◌, sym, ◌∙◌, arith, inr}
use Rattle.intaglio_index.proofs.FilterLemmas.{marked-some}
use Rattle.intaglio_index.proofs.HeadLemmas.{count-is, numbered, is-occupied, second-within}
use Rattle.intaglio_index.proofs.SearchLemmas.{IsRead, head-absent, head-behind, word-first, word-second, word-within, two-steps}
use Rattle.intaglio_index.proofs.index.Index.find.Goals as goal
use Rattle.intaglio_index.proofs.index.Index.find.Goals.{After-agrees}

exact : (c : After-agrees) → c.args.self.now.count ≡ c.self.inside.modulus.mask + 1
exact c =
    count-is c.self.view_is c.self.invariant ∙ sym c.self.invariant.counted
    ∙ c.is_power_of_two.ensures.0 c.if-not-is_power_of_two.false

read : (c : After-agrees) →
    IsRead c.args.self.now c.args.hash (c.self.inside.modulus.mask + 1) c.index-head.result.now
    c.matching_word-word.result
read c = grind (arith, common_steps, count-is c.self.view_is c.self.invariant, exact, is-occupied c.self.view_is c.self.invariant, marked-some)

pub returns-then-hash-head-clause-none : goal.returns-then-hash-head-clause-none
returns-then-hash-head-clause-none c =
    λ e. head-absent (read (goal.at.returns-then-hash-head-clause-none c).After-agrees)
    c.agrees.result c.if-not-agrees.true c.agrees.ensures.1 c.then-hash-head.either

pub symbol-requires-clause-number : goal.symbol-requires-clause-number
symbol-requires-clause-number c =
    let all = (goal.at.symbol-requires-clause-number c).After-agrees in
    omega (arith, second-within (read all).occupied, numbered c.self.view_is c.self.invariant)

pub find_behind-requires : goal.find_behind-requires
find_behind-requires c = grind (arith, common_steps, head-behind, read)

pub symbol_beside-symbol-requires-clause-number : goal.symbol_beside-symbol-requires-clause-number
symbol_beside-symbol-requires-clause-number c =
    let all = (goal.at.symbol_beside-symbol-requires-clause-number c).After-agrees in
    omega (arith, word-within (read all), numbered c.self.view_is c.self.invariant)

pub returns-then-word-head-clause-found : goal.returns-then-word-head-clause-found
returns-then-word-head-clause-found c =
    let all = (goal.at.returns-then-word-head-clause-found c).After-agrees in
    rw c.symbol_beside-symbol.ensures
    (word-first (read all) (c.agrees.ensures.0 c.if-not-agrees.false) (inr (exact all)) _ _
    c.if-word-head.true c.step.ensures)

pub returns-clause-found : goal.returns-clause-found
returns-clause-found c =
    let all = (goal.at.returns-clause-found c).After-agrees in
    rw c.symbol_beside-symbol.ensures
    (word-second (read all) (c.agrees.ensures.0 c.if-not-agrees.false) (inr (exact all)) _ _
    c.if-word-head.false (two-steps _ c.step.ensures c.step-2.ensures))
