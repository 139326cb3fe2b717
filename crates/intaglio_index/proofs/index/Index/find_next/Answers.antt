-- The stored hash is that of the symbol's entry (`own-hash`), so comparing the next entry with it decides as
-- the clause does (`next-with`).
use Rattle.std.proofs.Common.{◌≡◌, ℕ, List, ◌∷◌, ◌++◌, sym, ◌∙◌, refl}
use Rattle.intaglio_index.proofs.Names.{eq-eqb, ne_eqb}
use Rattle.intaglio_index.specs.Placed.{chain}
use Rattle.intaglio_index.proofs.SearchLemmas.{next-with, entry-placed, hash-read}
use Rattle.intaglio_index.proofs.index.Index.find_next.Goals as goal
use Rattle.intaglio_index.proofs.index.Index.find_next.Goals.{After-next_entry}

own-hash : (c : After-next_entry) (b hash : ℕ) (before behind : List (ℕ × ℕ)) →
    chain c.args.self.now b ≡ before ++ (c.args.symbol, hash) ∷ behind → c.index-hash.result.now ≡ hash
own-hash c b hash before behind split = sym (hash-read c.args.self.now.hashes c.args.symbol _ _ c.requires
    (rw (← c.self.view_is) c.index-hash.ensures) c.id.ensures)
    ∙ (entry-placed _ b c.args.symbol hash before behind split).1

pub returns-in-None-clause-next : goal.returns-in-None-clause-next
returns-in-None-clause-next c = λ b hash before behind split.
    rw (next-with _ behind hash (c.next_entry.ensures.next b hash before behind split), c.in-None.is) refl

pub returns-then-found-hash-clause-next : goal.returns-then-found-hash-clause-next
returns-then-found-hash-clause-next c = λ b hash before behind split.
    let own = own-hash (goal.at.returns-then-found-hash-clause-next c).After-next_entry b hash before behind split in
    rw (next-with _ behind hash (c.next_entry.ensures.next b hash before behind split), c.in-Some.is)
    (rw (eq-eqb c.in-Some.found.1 hash (c.if-found-hash.true ∙ own)) refl)

pub returns-else-found-hash-clause-next : goal.returns-else-found-hash-clause-next
returns-else-found-hash-clause-next c = λ b hash before behind split.
    let own = own-hash (goal.at.returns-else-found-hash-clause-next c).After-next_entry b hash before behind split in
    rw (next-with _ behind hash (c.next_entry.ensures.next b hash before behind split), c.in-Some.is)
    (rw (ne_eqb c.in-Some.found.1 hash (λ q. c.if-found-hash.false (q ∙ sym own))) refl)
