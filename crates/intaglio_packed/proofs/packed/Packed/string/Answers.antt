-- By the invariant all strings are spellings of the kind, so this one is.
use Rattle.std.proofs.Common.{length, ◌<◌}
use Rattle.intaglio_packed.proofs.Names.{get_or_from_slice_get, strings_of}
use Rattle.intaglio_packed.proofs.packed.Packed.string.Goals as goal

pub returns-clause-kind : goal.returns-clause-kind
returns-clause-kind g c =
    let l : c.args.i < length (strings_of c.self.inside.records) = rw (← c.self.view_is) at c.requires in
    let x = c.string.result.now in
    rw (get_or_from_slice_get (strings_of c.self.inside.records) c.args.i x x c.string.ensures) at
    (c.self.invariant c.args.i x l)
