-- The two tests decide just what `LeadsRight` says of map i, so the one that fails is the error.
use Rattle.intaglio_columns.proofs.Names.{common_steps, slice_get, slice_get-get_or, slice_get_read, slice_get_within, LeadAlike}
use Rattle.std.proofs.Common.{◌≡◌, ◌∙◌, [], below_more, arith, get_or, refl, rules, Some}
use Rattle.intaglio_columns.proofs.Agreed.{LeadsRight, first-is, right-at}
use Rattle.intaglio_columns.proofs.renumbering.check_each.Goals as goal

pub returns-then-not-leads_from-clause-err : goal.returns-then-not-leads_from-clause-err
returns-then-not-leads_from-clause-err c = grind (arith, common_steps, slice_get_read)

pub returns-then-not-lead_alike-clause-err : goal.returns-then-not-lead_alike-clause-err
returns-then-not-lead_alike-clause-err c = grind (arith, common_steps, slice_get_read, first-is)

pub loop-i-preserved : goal.loop-i-preserved
loop-i-preserved c =
    let column = c.args.column.now in
    let maps = c.args.maps.now in
    let i = c.loop-i.i in
    let m = c.index-maps-number.result in
    let at : slice_get maps i ≡ Some m = slice_get_read maps _ i m refl (search rules) c.index-maps-number.is in
    let first = first-is maps i m c.index-maps-0.result at c.index-maps-0.is in
    let alike : LeadAlike (get_or maps 0 []) m = rw first (c.lead_alike.ensures.0 c.if-not-lead_alike.false) in
    let right : LeadsRight column maps i =
    right-at column maps i m at (c.leads_from.ensures.0 c.if-not-leads_from.false) alike in
    below_more (LeadsRight column maps) i c.loop-i.invariant right

pub returns-clause-from : goal.returns-clause-from
returns-clause-from c = λ i m at.
    (c.loop-i.invariant i (omega (arith, slice_get_within c.args.maps.now i m at)) m at).0

pub returns-clause-to : goal.returns-clause-to
returns-clause-to c = λ i d within.
    (c.loop-i.invariant i (omega (arith, within)) (get_or c.args.maps.now i d)
    (slice_get-get_or c.args.maps.now i d within)).1
