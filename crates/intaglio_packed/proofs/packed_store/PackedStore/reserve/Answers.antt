-- The strings stay, so all of them are still spellings of the kind.
use Rattle.intaglio_packed.proofs.packed_store.PackedStore.reserve.Goals as goal

pub invariant_of-self : goal.invariant_of-self
invariant_of-self g c = rw c.reserve_strings.ensures.list c.self.invariant
