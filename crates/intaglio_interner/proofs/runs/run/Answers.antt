-- Each turn puts one step behind those so far (`Adds-push`, `growing-push`). In the end these are all calls,
-- and the clauses on the whole run follow by lemmas on any run, or are parts of the invariant.
use Rattle.intaglio_interner.proofs.Names.{◌≡◌, ◌∙◌, [], arith, append_assoc, append-nil, refl, sym, rules, into_iter_items, All-nil, common_steps, KeepsRoom}
use Rattle.intaglio_interner.proofs.Growth.{Runs-hash, Runs-places, Runs-room, Runs-issue, Runs-roomier}
use Rattle.intaglio_interner.proofs.Bytes.{All-next, StillRoom-next}
use Rattle.intaglio_interner.proofs.InOrder.{Adds-push}
use Rattle.intaglio_interner.proofs.Growths.{growing-push, call-size, grows-seldom}
use Rattle.intaglio_interner.proofs.runs.run.Goals as goal

pub loop-call-init : goal.loop-call-init
loop-call-init g c =
    let all : into_iter_items c.into_iter-call-iterator.result ≡ c.args.calls.items = search rules in
    record {
      can = tt;
      finite = tt;
      ran = ([], sym (append-nil _), rw c.in_ok-replies.ensures.items (refl, refl));
      growths = (0, 0, rw c.in_ok-replies.ensures.items (refl, refl, refl));
      same_hash = refl;
      whole = all;
      room = search rules;
      bytes = λ keep. omega arith;
      still = λ qs is few there enough. (
        rw c.in_ok-replies.ensures.items (All-nil _),
        (qs, all ∙ is, few, enough),
      );
    }

pub loop-call-preserved : goal.loop-call-preserved
loop-call-preserved g c = record {
  can = tt;
  finite = tt;
  ran = rw c.push_reserved.ensures.items
      (Adds-push _ _ _ c.loop-call.replies.items _ c.loop-call.invariant.ran (let spent =
      rw c.loop-call.invariant.same_hash at c.step.ensures.cost in
      (spent.0, spent.1, (c.step.ensures.step, spent.2, c.step.ensures.valid))));
  growths = rw c.push_reserved.ensures.items
      (growing-push _ _ _ c.loop-call.replies.items _ _ _ c.step.result _ c.loop-call.invariant.growths
      c.step.ensures.step c.step.ensures.grows);
  same_hash = c.step.ensures.same_hash ∙ c.loop-call.invariant.same_hash;
  whole = rw (append_assoc, ← c.in-Some.ensures.steps.0) c.loop-call.invariant.whole;
  room = omega (arith, c.in-Some.ensures.steps);
  bytes = λ keep. omega (
    arith,
    c.loop-call.invariant.bytes keep,
    c.step.ensures.bytes
        (All-next KeepsRoom _ c.loop-call.invariant.whole c.in-Some.ensures.steps.0 keep),
  );
  still = rw c.push_reserved.ensures.items (λ qs is few there enough.
      let so_far = c.loop-call.invariant.still qs is few there enough in
      StillRoom-next g.T.Content.Keyed.key g.Q.Keyed.key g.T.Content.Content.spelling g.Q.AddedTo.adds
      g.Q.AddedTo.copies _ _ so_far.1.0 _ _ c.step.result _ _ _
      (sym c.in-Some.ensures.steps.0 ∙ so_far.1.1) so_far.1.2 there so_far.1.3 so_far.0 c.step.ensures.room
      c.step.ensures.step);
}

pub returns : goal.returns
returns g c =
    let one = g.met.Q.AddedTo.adds_one in
    let all : c.loop-call.yielded ≡ c.args.calls.items = grind (arith, common_steps) in
    let ran = rw all at c.loop-call.invariant.ran in
    record {
      ok = ran;
      issues = λ cs empty interns none.
          search (Runs-issue, one, empty, rw interns at ran.2, none);
      hashes = (ran.0, ran.1, search (Runs-hash, one, ran.2));
      growth = (ran.0, ran.1, λ keep. search (Runs-places, one, keep, ran.2));
      capacity = λ keep. search (Runs-roomier, one, keep, ran.2);
      room = search (Runs-room, ran.2);
      same_hash = c.loop-call.invariant.same_hash;
      bytes = c.loop-call.invariant.bytes;
      byte_room = λ qs interns few there enough. (c.loop-call.invariant.still qs interns few there enough).0;
      growths = grows-seldom _ _ _ (call-size _ _ one) (rw all at c.loop-call.invariant.growths);
      err = tt;
      same_bytes = tt;
      no_cost = tt;
      none_needed = search rules;
    }
