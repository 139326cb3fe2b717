-- The newest entry is in one of three lines (`is-in`). If the first line leads nowhere, it is that one,
-- because an overflow line has a number above 0.
use Rattle.std.proofs.Common.{ℕ, ◌<◌, List, ◌∷◌, length, get_or, refl, arith, mod-lt}
use Rattle.intaglio_records.proofs.Names.{Entry, IsLine, no_line}
use Rattle.intaglio_records.proofs.ChainLemmas.{read-line}
use Rattle.intaglio_records.proofs.Placing.{first-is, refilled}
use Rattle.intaglio_records.proofs.Removing.{is-in, in_first, in_newest, in_new, remove-first}
use Rattle.intaglio_records.proofs.lines.Lines.remove_newest.Goals as goal

pub returns-clause-removed : goal.returns-clause-removed
returns-clause-removed c slot es filled =
    let lines = c.args.self.now in
    let items = lines.lines.items in
    let e : Entry = (c.args.hash, slot) in
    let k = c.class-first.result in
    let some : 0 < lines.base = omega (arith, filled.few) in
    let at = c.class-first.ensures in
    let within : k < lines.base = rw at (mod-lt c.args.hash some) in
    let inside : k < length items = omega (arith, within, filled.chains.size) in
    let number = c.next-newest.ensures _ _ (first-is lines (e ∷ es) filled k within c.index.result.now c.index.ensures) in
    elim (is-in lines.base k e es some at) [
      | in_first lt none ↦
          (let cut : (xs : List Entry) (next : ℕ) → IsLine (get_or items k no_line) (e ∷ xs) next →
          IsLine c.remove.new.self xs next = λ xs next is.
          c.remove.ensures e xs next
          (read-line items k c.index_mut.result.now (e ∷ xs) next inside c.index_mut.ensures.value is)
          (omega (
            arith,
            c.count-count.ensures (e ∷ xs) next
                (read-line items k c.index-2.result.now (e ∷ xs) next inside c.index-2.ensures is),
          )) in
          refilled lines _ (e ∷ es) _ filled refl refl (omega (arith, filled.few))
          (remove-first lines.base k e es items some at filled.chains c.remove.new.self lt cut))
      | in_newest full lt same there more ↦ absurd (omega (arith, number, same, there, c.if-newest-ne0.false))
      | in_new full none is ↦ absurd (omega (arith, number, is, some, c.if-newest-ne0.false))
    ]
