-- A pilot that fails leaves a string without a place (`has_places`). That this is so of all 2^16 is what
-- `IsStuck` says, for the pilots of the groups placed before, whose strings have places of their own.
use Rattle.std.proofs.Common.{◌∙◌, ℕ, inl, inr, get_or, arith}
use Rattle.intaglio_frozen.proofs.Names.{cases_eq}
use Rattle.intaglio_frozen.proofs.stuck.has_pilot.Goals as goal

pub loop-pilot-preserved : goal.loop-pilot-preserved
loop-pilot-preserved c =
    let hs = c.args.hashes.now in
    let ps = λ (g : ℕ). get_or c.args.pilots.now g 0 in
    let g = c.args.group in
    let n = c.loop-pilot.pilot in
    let old = c.loop-pilot.invariant in
    record {
      len = c.has_places.ensures.len ∙ old.len;
      marked = c.has_places.ensures.marked ps g old.marked;
      none = λ q l. elim (cases_eq q n) [
        | inl same ↦
            rw same (c.has_places.ensures.none ps g old.marked c.requires.members c.if-has_places.false)
        | inr other ↦ old.none q (omega (arith, l, other))
      ];
    }

pub returns : goal.returns
returns c _ = record {
  pilots = λ g. get_or c.args.pilots.now g 0;
  few = λ g. (c.type_inv.pilots g).fits;
  group = c.args.group;
  own = c.mark_before.ensures.own c.if-not-mark_before.false;
  none = λ q l. c.loop-pilot.invariant.none q (omega (arith, l, c.loop-pilot-test.false));
}
