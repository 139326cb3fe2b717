-- The place that a turn marks is that of string i under the pilot of its group, which `is_before` says is
-- placed before this one (`marked-more`). It wasn't marked, so no earlier string has it (`own-more`).
use Rattle.intaglio_frozen.proofs.Names.{group_at, IsBefore, place_under, taken_mark}
use Rattle.std.proofs.lemmas.List.{length-set}
use Rattle.std.proofs.Common.{◌≡◌, ◌<◌, ◌∙◌, ℕ, length, ap, get_or, get_or-set_same, set, subst, sym, arith}
use Rattle.intaglio_frozen.proofs.Marked.{marked-more, own-more, stays-taken}
use Rattle.intaglio_frozen.proofs.stuck.mark_before.Goals.{then-is_before+else-marks-place, else-is_before}
use Rattle.intaglio_frozen.proofs.stuck.mark_before.Goals as goal

pub loop-i-preserved : goal.loop-i-preserved
loop-i-preserved c =
    let hs = c.args.hashes.now in
    let ps = λ (g : ℕ). get_or c.args.pilots.now g 0 in
    let g = c.args.group in
    let i = c.loop-i.i in
    let marks = c.loop-i.marks in
    let old = c.loop-i.invariant in
    let other = c.group_at-other.ensures.value in
    let is_before = c.is_before.ensures hs c.requires.sizes in
    elim c.if-is_before.branch [
      | then-is_before+else-marks-place w ↦
          (let at = w.place_under-place.result in
          let within : at < length marks = omega (arith, w.place_under-place.ensures.below, old.len, c.requires.marks) in
          let is : at ≡ place_under hs i (ps (group_at hs i)) =
          w.place_under-place.ensures.value ∙ ap (λ f. place_under hs i (ps f)) other in
          record {
            len = rw w.marks-is (length-set marks at taken_mark ∙ old.len);
            marked = rw w.marks-is
                (marked-more hs ps g marks 0 at i within
                (record {
                  there = c.loop-i-test.true;
                  before = subst (λ f. IsBefore hs f g) other (is_before.0 w.if-is_before.true);
                  place = sym is;
                }) old.marked);
            own = rw w.marks-is
                (own-more hs ps g marks (set marks at taken_mark) i (λ p e. stays-taken marks at p within e)
                (λ p this. rw (← this.place, ← is)
                (w.if-marks-place.false, get_or-set_same marks at taken_mark 0 within)) old.own);
          })
      | else-is_before w ↦ record {
        len = rw w.marks-is old.len;
        marked = rw w.marks-is old.marked;
        own = rw w.marks-is
            (own-more hs ps g marks marks i (λ _ e. e)
            (λ p this. let no = is_before.1 (rw (← other) at this.before) in cc) old.own);
      }
    ]

pub returns-clause-own : goal.returns-clause-own
returns-clause-own c = λ _ p i j l is also.
    c.loop-i.invariant.own.own p i j l (omega (arith, also.there, c.loop-i-test.false)) is also
