-- The calls so far ran, and with the rest they are all calls. A step sees no room of the store, so `growths`,
-- `bytes` and `still` say beside `ran` what becomes of that.
use Rattle.intaglio_interner.proofs.Names.{◌≡◌, ℕ, ◌++◌, ◌+◌, ◌≤◌, vec_len, vec_capacity, into_iter_items, into_iter_len, Adds, RunsValues, HoldsBytes, Step, room, RunsGrowing}
use Rattle.intaglio_interner.proofs.Bytes.{StillRoom}
use Rattle.intaglio_interner.proofs.runs.run.Given as goal

abbrev pub invariant-loop-call : goal.invariant-loop-call
invariant-loop-call g l =
    let key = g.T.Content.Keyed.key in
    let spelling = g.T.Content.Content.spelling in
    let adds = g.Q.AddedTo.adds in
    let copies = g.Q.AddedTo.copies in
    let old = g.T.BaseInterner.state l.initial.table in
    let now = g.T.BaseInterner.state l.table in
    let spare = g.T.BaseInterner.spare_bytes l.initial.table in
    let spare' = g.T.BaseInterner.spare_bytes l.table in
    let rest = into_iter_items l.call-iterator in
    record {
      can : (goal.iterator-loop-call g).can_next l.call-iterator;
      finite : (goal.iterator-loop-call g).is_finite l.call-iterator;
      ran : Adds l.initial.work.events l.work.events (λ cost. RunsValues key g.Q.Keyed.key spelling adds copies
          (g.T.BaseInterner.hash l.initial.table) old l.yielded l.replies.items cost now);
      growths : (i j : ℕ) × RunsGrowing g.T.Store.Store.takes g.Q.AddedTo.needs
          (Step key g.Q.Keyed.key spelling adds copies) (room old (g.T.BaseInterner.most l.initial.table) spare)
          l.yielded l.replies.items i j (room now (g.T.BaseInterner.most l.table) spare');
      same_hash : g.T.BaseInterner.hash l.table ≡ g.T.BaseInterner.hash l.initial.table;
      whole : l.yielded ++ rest ≡ l.fn.calls.items;
      room : vec_len l.replies + into_iter_len l.call-iterator ≤ vec_capacity l.replies;
      bytes : HoldsBytes g.T.Store.Store.takes old spare l.fn.calls.items now spare';
      still : StillRoom g.Q.AddedTo.needs g.Q.AddedTo.in_store old spare l.fn.calls.items rest
          l.replies.items now spare';
    }
