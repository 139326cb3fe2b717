-- The form of the next string has its spelling, and needs no more bytes than it has (`from_string`).
use Rattle.intaglio_frozen.proofs.Names.{common_steps}
use Rattle.std.proofs.Common.{◌≡◌, ◌++◌, [], ◌∷◌, refl, rules, arith}
use Rattle.intaglio_frozen.proofs.HashedAhead.{take_there}
use Rattle.intaglio_frozen.proofs.absorbing.forms_of.Goals as goal

pub loop-i-preserved : goal.loop-i-preserved
loop-i-preserved g c =
    let strings = g.L.StringList.strings c.args.list.now in
    let form = c.from_string.result in
    let string = c.string.result.now in
    let items : c.push_reserved.new.self.items ≡ c.loop-i.forms.items ++ form ∷ [] = search rules in
    let next = take_there strings c.loop-i.i string c.string.ensures in
    record {
      forms = grind (arith, common_steps);
      needs = grind (arith, common_steps);
      count = omega (arith, c.push_reserved.ensures.len, c.loop-i.invariant.count);
      room = search rules;
    }

pub from_string-requires : goal.from_string-requires
from_string-requires g c = λ _. ((refl, tt), c.requires c.loop-i.i c.string.result.now c.string.ensures)
