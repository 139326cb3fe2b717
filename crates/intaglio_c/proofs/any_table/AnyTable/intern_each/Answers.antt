-- Each turn interns one string more, by the hash that was made ahead, as `turned` says. The first that fails
-- ends the loop, as `stopped` says.
use Rattle.intaglio_c.proofs.Names.{common_steps, Ok, rules, sym, ap, ◌∙◌, arith, IsHash, seen, first_ahead}
use Rattle.intaglio_c.proofs.Batches.{stopped, turned}
use Rattle.intaglio_c.proofs.any_table.AnyTable.intern_each.Goals as goal

pub intern-requires : goal.intern-requires
intern-requires g c = record {
  hash = (first_ahead (IsHash (seen c.loop-i.self).kind (seen c.loop-i.self).hasher) (g.L.StringList.strings c.args.list.now) _ c.loop-i.i _ _
      c.string.ensures c.look_ahead-used.ensures.some c.look_ahead-used.ensures.left).0;
}

pub returns-in-Err : goal.returns-in-Err
returns-in-Err g c = record {
  step = stopped _ _ (seen c.loop-i.self) (seen c.intern.new.self) _ c.loop-i.symbols c.loop-i.i _ _ _ c.string.ensures c.loop-i.invariant.begins
      c.in-Err.is c.intern.ensures.step;
}

pub loop-i-preserved : goal.loop-i-preserved
loop-i-preserved g c = record {
  places = search rules;
  room = c.look_ahead-used.ensures.places ∙ c.loop-i.invariant.room;
  ahead = rw (c.intern.ensures.step.kind, c.intern.ensures.step.hasher)
      (first_ahead (IsHash (seen c.loop-i.self).kind (seen c.loop-i.self).hasher) (g.L.StringList.strings c.args.list.now) _ c.loop-i.i _ _
      c.string.ensures c.look_ahead-used.ensures.some c.look_ahead-used.ensures.left).1;
  begins = turned _ _ (seen c.loop-i.self) (seen c.intern.new.self) c.loop-i.symbols c.loop-i.i _ _ _ c.string.ensures c.loop-i.invariant.places
      c.loop-i.invariant.begins (c.in-Ok.is ∙ ap Ok (sym c.id.ensures)) c.intern.ensures.step;
}

pub returns : goal.returns
returns g c = grind (arith, common_steps)
