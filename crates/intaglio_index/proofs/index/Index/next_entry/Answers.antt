-- By the invariant, the link of a placed symbol leads to a placed one (`link-within`), which is the next of
-- its bucket (`after-reads`).
use Rattle.std.proofs.Common.{◌<◌, length, sym, ◌∙◌}
use Rattle.intaglio_index.specs.Placed.{chain}
use Rattle.intaglio_index.proofs.LinkLemmas.{after-reads, link-within}
use Rattle.intaglio_index.proofs.index.Index.next_entry.Goals as goal

pub entry-requires : goal.entry-requires
entry-requires c =
    let within : c.args.symbol < length c.self.inside.hashes.items = rw (← c.self.view_is) at c.requires in
    let next = rw c.deref-2.ensures.value at c.next.ensures in
    λ s e. rw c.deref.ensures.value (link-within c.self.invariant.linked
    c.args.symbol s within (sym next ∙ e))

pub returns : goal.returns
unfolding chain
returns c =
    let next = rw c.deref-2.ensures.value at c.next.ensures in
    let entry = rw c.deref.ensures.value at c.entry.ensures in
    rw (← c.self.view_is) record {
      next = λ b hash before behind e. entry
          ∙ after-reads c.self.invariant.linked c.args.symbol _ next b hash before behind e;
    }
