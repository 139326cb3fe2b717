-- The mark says why a place isn't free: a group before has it (`place-taken`), or an earlier string of this
-- group (`place-tried`). Marks of other pilots are lower numbers, so they needn't be removed.
use Rattle.std.proofs.Common.{sym}
use Rattle.intaglio_frozen.proofs.Marked.{place-taken, place-tried}
use Rattle.intaglio_frozen.proofs.stuck.has_places.Goals.{then-marks-place-via-then-marks-place, then-marks-place-via-else-marks-place+then-marks-place-2}
use Rattle.intaglio_frozen.proofs.stuck.has_places.Goals as goal

pub returns-then-marks-place-clause-none : goal.returns-then-marks-place-clause-none
returns-then-marks-place-clause-none c pilots g marked are _ =
    let hs = c.args.hashes.now in
    let q = c.args.pilot in
    let marks = c.loop-member.marks in
    let k = c.loop-member.member-index in
    let at = c.place_under-place.result in
    let tried = c.loop-member.invariant.tried pilots g marked in
    let l = c.loop-member-test.true in
    let is = sym c.place_under-place.ensures.value in
    elim c.then-marks-place.branch [
      | then-marks-place-via-then-marks-place w ↦
          place-taken hs pilots g c.args.members.now q marks k at are l is tried
          w.if-marks-place.true
      | then-marks-place-via-else-marks-place+then-marks-place-2 w ↦
          place-tried hs pilots g c.args.members.now q marks k at are l is tried
          w.if-marks-place-2.true
    ]
