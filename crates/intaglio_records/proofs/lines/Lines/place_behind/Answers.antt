-- A first line that is full leads to the newest overflow line of its class, or nowhere. If that has room, it
-- takes the entry (`place-add`), and otherwise no line of the class has any, which `place_in_new` requires.
use Rattle.intaglio_records.proofs.Names.{common_steps, newest, overflow, no_line, IsFilled, Entry, IsLine, Line, Lines}
use Rattle.std.proofs.Common.{◌≡◌, ℕ, ◌%◌, ◌<◌, List, ◌∷◌, length, get_or, refl, arith, mod-lt}
use Rattle.intaglio_records.proofs.ChainLemmas.{read-line}
use Rattle.intaglio_records.proofs.Tops.{length-none}
use Rattle.intaglio_records.proofs.Placing.{place-add, first-is, newest-in, other-is, refilled}
use Rattle.intaglio_records.proofs.lines.Lines.place_behind.Goals as goal
use Rattle.intaglio_records.proofs.lines.Lines.place_behind.Goals.{then-newest-ne0+else-count-lt-SLOTS, else-newest-ne0}

-- the first line of a class tells which is its newest
newest-is : (lines : Lines) (es : List Entry) → IsFilled lines es → (k hash n : ℕ) → 0 < lines.base →
    k ≡ hash % lines.base → (x : Line) → x ≡ get_or lines.lines.items k x →
    ((xs : List Entry) (next : ℕ) → IsLine x xs next → n ≡ next) → n ≡ newest lines.base k (overflow lines.base es)
newest-is lines es filled k hash n some at x e tells =
    tells _ _ (first-is lines es filled k (rw at (mod-lt hash some)) x e)

pub place_in_new-requires-clause-newest : goal.place_in_new-requires-clause-newest
place_in_new-requires-clause-newest c es filled =
    newest-is c.args.self.now es filled c.args.first c.args.hash c.next-newest.result (omega (arith, c.requires.free.2))
    c.requires.class c.index.result.now c.index.ensures c.next-newest.ensures

pub index-requires-then-newest-ne0 : goal.index-requires-then-newest-ne0
index-requires-then-newest-ne0 c =
    let lines = c.args.self.now in let es = c.requires.free.0 in let filled = c.requires.free.1 in
    let is = newest-is lines es filled c.args.first c.args.hash c.next-newest.result (omega (arith, c.requires.free.2))
    c.requires.class c.index.result.now c.index.ensures c.next-newest.ensures in
    omega (arith, newest-in lines es filled c.args.first c.next-newest.result is, lines.lines.ok.0)

pub count-count-requires : goal.count-count-requires
count-count-requires c =
    let lines = c.args.self.now in let es = c.requires.free.0 in let filled = c.requires.free.1 in
    let is = newest-is lines es filled c.args.first c.args.hash c.next-newest.result (omega (arith, c.requires.free.2))
    c.requires.class c.index.result.now c.index.ensures c.next-newest.ensures in
    let found = other-is lines es filled c.args.first c.next-newest.result is c.if-newest-ne0.true
    c.index-then-newest-ne0.result.now c.index-then-newest-ne0.ensures in
    (found.0, found.1, found.2)

pub index_mut-requires : goal.index_mut-requires
index_mut-requires c =
    let lines = c.args.self.now in let es = c.requires.free.0 in let filled = c.requires.free.1 in
    let is = newest-is lines es filled c.args.first c.args.hash c.next-newest.result (omega (arith, c.requires.free.2))
    c.requires.class c.index.result.now c.index.ensures c.next-newest.ensures in
    omega (arith, newest-in lines es filled c.args.first c.next-newest.result is, lines.lines.ok.0)

pub returns-then-count-lt-SLOTS-clause-placed : goal.returns-then-count-lt-SLOTS-clause-placed
returns-then-count-lt-SLOTS-clause-placed c es room filled =
    let lines = c.args.self.now in
    let items = lines.lines.items in
    let e : Entry = (c.args.hash, c.args.slot) in
    let n = c.next-newest.result in
    let some : 0 < lines.base = omega (arith, room) in
    let is = newest-is lines es filled c.args.first c.args.hash n some c.requires.class c.index.result.now
    c.index.ensures c.next-newest.ensures in
    let found = other-is lines es filled c.args.first n is c.if-newest-ne0.true
    c.index-then-newest-ne0.result.now c.index-then-newest-ne0.ensures in
    let inside : n < length items = newest-in lines es filled c.args.first n is (omega (arith, some)) in
    let put : (xs : List Entry) (next : ℕ) → IsLine (get_or items n no_line) xs next →
    IsLine c.put.new.self (e ∷ xs) next = λ xs next here.
    c.put.ensures xs next c.args.hash (read-line items n c.index_mut.result.now xs next inside c.index_mut.ensures.value here)
    (c.count-count.ensures xs next (read-line items n c.index-then-newest-ne0.result.now xs next inside
    c.index-then-newest-ne0.ensures here)) c.tag_of.ensures in
    refilled lines _ es _ filled refl refl (omega (arith, room))
    (place-add lines.base c.args.first e es items some c.requires.class filled.chains c.put.new.self n is
    (omega (arith, c.if-newest-ne0.true)) (c.requires.full es filled)
    (omega (arith, found.3, c.count-count.ensures found.0 found.1 found.2)) put)

pub place_in_new-requires-clause-others_full : goal.place_in_new-requires-clause-others_full
place_in_new-requires-clause-others_full c es filled =
    let lines = c.args.self.now in
    let is = place_in_new-requires-clause-newest c es filled in
    elim c.if-newest-ne0.branch [
      | then-newest-ne0+else-count-lt-SLOTS w ↦
          (let found = other-is lines es filled c.args.first c.next-newest.result is w.if-newest-ne0.true
          w.index-then-newest-ne0.result.now w.index-then-newest-ne0.ensures in
          omega (arith, found.3, w.count-count.ensures found.0 found.1 found.2, w.if-count-lt-SLOTS.false))
      | else-newest-ne0 w ↦ grind (arith, common_steps, length-none)
    ]
