-- A bucket's first symbol is placed (`leader-within`), and with its stored hash it is the first entry of the
-- chain (`first-reads`).
use Rattle.std.proofs.Common.{sym, ap, ◌∙◌}
use Rattle.intaglio_index.proofs.Names.{option_map, entry_of}
use Rattle.intaglio_index.specs.Placed.{chain}
use Rattle.intaglio_index.proofs.LinkLemmas.{first-reads, leader-within}
use Rattle.intaglio_index.proofs.index.Index.first_entry.Goals as goal

pub entry-requires : goal.entry-requires
unfolding chain
entry-requires c =
    let leads = rw (← c.self.view_is) at c.first_symbol.ensures in
    λ s e. rw c.deref.ensures.value (leader-within c.self.invariant.linked c.args.bucket s (sym leads ∙ e))

pub returns : goal.returns
unfolding chain
returns c =
    let leads = rw (← c.self.view_is) at c.first_symbol.ensures in
    let entry = rw c.deref.ensures.value at c.entry.ensures in
    rw (← c.self.view_is) (entry ∙ ap (option_map (entry_of c.self.inside.hashes.items)) leads
    ∙ first-reads c.self.invariant.linked c.args.bucket)
