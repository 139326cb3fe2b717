-- The strings stay, so all of them are still spellings of the kind.
use Rattle.intaglio_packed.proofs.packed_store.PackedByteStore.reserve_bytes.Goals as goal

pub invariant_of-self : goal.invariant_of-self
invariant_of-self g c = rw c.reserve_bytes.ensures.list c.self.invariant
