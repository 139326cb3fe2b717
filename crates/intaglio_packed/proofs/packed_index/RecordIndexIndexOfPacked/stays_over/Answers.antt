-- An index over strings with some room is over them with less room too (`gives-up`). Its state is read from
-- the hashes alone, which are the same.
use Rattle.std.proofs.Common.{refl}
use Rattle.intaglio_packed.proofs.PackedLemmas.{gives-up}
use Rattle.intaglio_packed.proofs.packed_index.RecordIndexIndexOfPacked.stays_over.Goals as goal

pub returns-clause-over : goal.returns-clause-over
returns-clause-over g c =
    let old = c.requires in
    let less = old.2 in
    gives-up c.args.self.now old.0 c.args._list.now less.same_contents less.same_hashes less.no_more
    less.no_more_bytes old.1

pub returns-clause-state : goal.returns-clause-state
returns-clause-state g c = λ old over less. rw less.same_hashes refl
