-- The body does nothing: that each string is a spelling of the kind is the invariant.
use Rattle.std.proofs.Common.{[], length, ◌<◌}
use Rattle.intaglio_packed.proofs.Names.{slice_get-get_or, strings_of}
use Rattle.intaglio_packed.proofs.packed_store.PackedSpellingStore.is_spelling_at.Goals as goal

pub returns : goal.returns
returns g c =
    let l : c.args.i < length (strings_of c.self.inside.records) = rw (← c.self.view_is) at c.requires in
    rw (← c.self.view_is, slice_get-get_or (strings_of c.self.inside.records) c.args.i [] l)
    (c.self.invariant c.args.i [] l)
