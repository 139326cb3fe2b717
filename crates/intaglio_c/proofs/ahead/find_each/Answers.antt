-- Each turn looks up one string more by its hash, which `look_ahead` made, and writes its number behind
-- those so far. At the end there is a number for each string.
use Rattle.intaglio_c.proofs.Names.{◌<◌, common_steps, rules, ◌∙◌, length, inr, arith, all_first, first_ahead, more}
use Rattle.intaglio_c.proofs.ahead.find_each.Goals as goal

pub find_number-requires : goal.find_number-requires
find_number-requires g c = record {
  sound = c.requires.sound;
  hash = (first_ahead (g.T.HashesAhead.is_hash c.args.table.now) (g.L.StringList.strings c.args.list.now) _ c.loop-i.i _ _
      c.string.ensures c.look_ahead-used.ensures.some c.look_ahead-used.ensures.left).0;
}

pub loop-i-preserved : goal.loop-i-preserved
loop-i-preserved g c = let inside : c.loop-i.i < length c.loop-i.symbols =
    omega (arith, c.loop-i-test.true, c.loop-i.invariant.places) in record {
      places = search rules;
      room = c.look_ahead-used.ensures.places ∙ c.loop-i.invariant.room;
      ahead = (first_ahead (g.T.HashesAhead.is_hash c.args.table.now) (g.L.StringList.strings c.args.list.now) _ c.loop-i.i _ _
          c.string.ensures c.look_ahead-used.ensures.some
          c.look_ahead-used.ensures.left).1;
      written = grind (arith, common_steps, more);
    }

pub returns : goal.returns
returns g c = let strings = g.L.StringList.strings c.args.list.now in record {
  found = (
    c.loop-i.invariant.places,
    all_first (g.T.LookUps.may_be c.args.table.now) strings c.loop-i.symbols c.loop-i.i
        (inr (omega (arith, c.loop-i-test.false, c.loop-i.invariant.places))) c.loop-i.invariant.written,
  );
}
