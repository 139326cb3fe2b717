-- The count says in which line of `is-in` the newest entry is. If it was alone there, its line is the last of
-- all, so it can be truncated away once the first line leads to the older one.
use Rattle.std.proofs.Common.{ℕ, ◌<◌, List, [], ◌∷◌, length, get_or, refl, ◌∙◌, arith, mod-lt}
use Rattle.intaglio_records.proofs.Names.{Entry, IsLine, no_line}
use Rattle.intaglio_records.proofs.ChainLemmas.{read-line}
use Rattle.intaglio_records.proofs.Tops.{first-full}
use Rattle.intaglio_records.proofs.Placing.{first-is, newest-in, other-is, refilled}
use Rattle.intaglio_records.proofs.Removing.{is-in, in_first, in_newest, in_new, is-new, remove-newest, remove-new}
use Rattle.intaglio_records.proofs.lines.Lines.remove_behind.Goals as goal

pub index-requires : goal.index-requires
index-requires c = omega (arith, newest-in c.args.self.now _ c.requires.there.2 c.args.first c.args.newest (c.requires.newest _ c.requires.there.2))

pub count-count-requires : goal.count-count-requires
count-count-requires c =
    let found = other-is c.args.self.now _ c.requires.there.2 c.args.first c.args.newest
    (c.requires.newest _ c.requires.there.2) c.requires.some c.index.result.now c.index.ensures in
    (found.0, found.1, found.2)

pub index_mut-requires : goal.index_mut-requires
index_mut-requires c = omega (arith, newest-in c.args.self.now _ c.requires.there.2 c.args.first c.args.newest (c.requires.newest _ c.requires.there.2))

pub index-requires-2 : goal.index-requires-2
index-requires-2 c = omega (arith, newest-in c.args.self.now _ c.requires.there.2 c.args.first c.args.newest (c.requires.newest _ c.requires.there.2))

pub remove-requires : goal.remove-requires
remove-requires c =
    let found = other-is c.args.self.now _ c.requires.there.2 c.args.first c.args.newest
    (c.requires.newest _ c.requires.there.2) c.requires.some c.index.result.now c.index.ensures in
    omega (arith, found.2.few, c.count-count.ensures found.0 found.1 found.2)

pub returns-then-count-gt1-clause-removed : goal.returns-then-count-gt1-clause-removed
returns-then-count-gt1-clause-removed c slot es filled =
    let lines = c.args.self.now in
    let items = lines.lines.items in
    let e : Entry = (c.args.hash, slot) in
    let n = c.args.newest in
    let k = c.args.first in
    let some : 0 < lines.base = omega (arith, filled.few) in
    let number = c.requires.newest (e ∷ es) filled in
    let inside : n < length items = newest-in lines (e ∷ es) filled k n number (omega (arith, some)) in
    elim (is-in lines.base k e es some c.requires.class) [
      | in_first lt none ↦ absurd (c.requires.some (number ∙ none))
      | in_newest full lt same there more ↦
          (let cut : (xs : List Entry) (next : ℕ) → IsLine (get_or items n no_line) (e ∷ xs) next →
          IsLine c.remove.new.self xs next = λ xs next is.
          c.remove.ensures e xs next
          (read-line items n c.index_mut.result.now (e ∷ xs) next inside c.index_mut.ensures.value is)
          (omega (
            arith,
            c.count-count.ensures (e ∷ xs) next
                (read-line items n c.index.result.now (e ∷ xs) next inside c.index.ensures is),
          )) in
          refilled lines _ (e ∷ es) _ filled refl refl (omega (arith, filled.few))
          (remove-newest lines.base k e es items some c.requires.class filled.chains c.remove.new.self n
          (number ∙ same) (omega (arith, c.requires.some)) full lt cut))
      | in_new full none is ↦
          (let here = is-new lines.base k e es items some c.requires.class filled.chains n (number ∙ is) full none in
          absurd (omega (
            arith,
            c.count-count.ensures (e ∷ []) _
                (read-line items n c.index.result.now (e ∷ []) _ inside c.index.ensures here),
            c.if-count-gt1.true,
          )))
    ]

pub returns-clause-removed : goal.returns-clause-removed
returns-clause-removed c slot es filled =
    let lines = c.args.self.now in
    let items = lines.lines.items in
    let e : Entry = (c.args.hash, slot) in
    let n = c.args.newest in
    let k = c.args.first in
    let class = c.requires.class in
    let some : 0 < lines.base = omega (arith, filled.few) in
    let number = c.requires.newest (e ∷ es) filled in
    let inside : n < length items = newest-in lines (e ∷ es) filled k n number (omega (arith, some)) in
    elim (is-in lines.base k e es some class) [
      | in_first lt none ↦ absurd (c.requires.some (number ∙ none))
      | in_newest full lt same there more ↦
          (let found =
          other-is lines (e ∷ es) filled k n number c.requires.some c.index.result.now c.index.ensures in
          absurd (omega (arith, c.count-count.ensures found.0 found.1 found.2, found.3, more, c.if-count-gt1.false)))
      | in_new full none is ↦
          (let here = is-new lines.base k e es items some class filled.chains n (number ∙ is) full none in
          let older =
          c.next-older.ensures (e ∷ []) _
          (read-line items n c.index-2.result.now (e ∷ []) _ inside c.index-2.ensures here) in
          let again =
          first-is lines (e ∷ es) filled k (rw class (mod-lt c.args.hash some)) c.index_mut-2.result.now
          c.index_mut-2.ensures.value in
          let kept = rw (older, first-full lines.base e es (rw class at full) k) at (c.set_next.ensures _ _ again) in
          refilled lines _ (e ∷ es) _ filled refl (omega (arith, c.truncate.ensures.capacity))
          (omega (arith, filled.few))
          (rw c.truncate.ensures.items
          (remove-new lines.base k e es items some class filled.chains c.set_next.new.self n (number ∙ is) full
          none kept)))
    ]
