-- Each slot leads to a record, so its header can be read. By `stepped` the first number left is that record's
-- if it has the hash, and otherwise the same are left. `found` is about its string.
use Rattle.std.proofs.Common.{◌∷◌, length, refl, arith, ap, ◌∙◌, sym}
use Rattle.intaglio_records.proofs.MatchLemmas.{found, stepped}
use Rattle.intaglio_records.proofs.matches.Matches.next.Goals as goal

pub begin-at-requires : goal.begin-at-requires
begin-at-requires c =
    let is = c.loop-slot.invariant.search in
    (stepped is.0 is.1 c.loop-slot.self c.next.new.self c.in-Some.slot _ is.2 refl is.3
    c.in-Some.ensures.gives).slot_is

pub read_hash-requires : goal.read_hash-requires
read_hash-requires c =
    let is = c.loop-slot.invariant.search in
    let at = (stepped is.0 is.1 c.loop-slot.self c.next.new.self c.in-Some.slot c.begin-at.result is.2 c.begin-at.ensures is.3 c.in-Some.ensures.gives).there in
    omega (arith, at.within, at.long, ap length c.bytes-bytes.ensures)

pub read_number-requires : goal.read_number-requires
read_number-requires c =
    let is = c.loop-slot.invariant.search in
    let at = (stepped is.0 is.1 c.loop-slot.self c.next.new.self c.in-Some.slot c.begin-at.result is.2 c.begin-at.ensures is.3 c.in-Some.ensures.gives).there in
    omega (arith, at.within, at.long, ap length c.bytes-bytes.ensures)

pub string_at-requires-clause-begins : goal.string_at-requires-clause-begins
string_at-requires-clause-begins c =
    let is = c.loop-slot.invariant.search in
    (stepped is.0 is.1 c.loop-slot.self c.next.new.self c.in-Some.slot c.begin-at.result is.2
    c.begin-at.ensures is.3 c.in-Some.ensures.gives).begins

pub returns-then-read_hash-self-clause-gives : goal.returns-then-read_hash-self-clause-gives
returns-then-read_hash-self-clause-gives c xs hash left was =
    let m = c.loop-slot.self in
    let is = c.loop-slot.invariant.left xs hash left was in
    let at = stepped xs hash m c.next.new.self c.in-Some.slot c.begin-at.result left c.begin-at.ensures is
    c.in-Some.ensures.gives in
    let same = sym (rw c.bytes-bytes.ensures at c.read_hash.ensures) ∙ c.if-read_hash-self.true ∙ is.hash_is in
    let number = rw c.bytes-bytes.ensures at c.read_number.ensures in (
      at.rest,
      at.same same ∙ ap (λ n. n ∷ at.rest) (sym number),
      at.is,
      found xs m.records.now.list at.begins.0 c.read_number.result hash c.string_at.result.now is.list at.begins.1
          (number ∙ at.there.number) (sym same ∙ at.there.hash)
          (c.string_at.ensures at.begins.0 at.begins.1 at.begins.2),
    )

pub loop-slot-preserved : goal.loop-slot-preserved
loop-slot-preserved c =
    let m = c.loop-slot.self in
    let is = c.loop-slot.invariant.search in
    let at = stepped is.0 is.1 m c.next.new.self c.in-Some.slot c.begin-at.result is.2 c.begin-at.ensures is.3 c.in-Some.ensures.gives in
    record {
      search = (is.0, is.1, at.rest, at.is);
      left = λ xs hash left was.
          (let now = c.loop-slot.invariant.left xs hash left was in
          let next = stepped xs hash m c.next.new.self c.in-Some.slot c.begin-at.result left c.begin-at.ensures now c.in-Some.ensures.gives in
          rw (next.other (λ same. c.if-read_hash-self.false
          (rw c.bytes-bytes.ensures at c.read_hash.ensures ∙ same ∙ sym now.hash_is))) next.is);
      fewer = omega (arith, c.in-Some.ensures.fewer, c.loop-slot.invariant.fewer);
    }

pub returns-clause-gives : goal.returns-clause-gives
returns-clause-gives c xs hash left was =
    let is = c.loop-slot.invariant.left xs hash left was in
    let none = c.in_default.ensures.gives is.slots is.slots_left in (
      grind (arith, is.left_is, none.0),
      record {
        slots = is.slots;
        slots_left = none.1;
        each = is.each;
        few = is.few;
        each_slot = is.each_slot;
        list = is.list;
        hash_is = is.hash_is;
        left_is = is.left_is;
      },
    )

pub returns-then-read_hash-self-clause-search : goal.returns-then-read_hash-self-clause-search
returns-then-read_hash-self-clause-search c =
    let given = returns-then-read_hash-self-clause-gives c c.requires.0 c.requires.1 c.requires.2 c.requires.3 in
    (c.requires.0, c.requires.1, given.0, given.2)

pub returns-clause-search : goal.returns-clause-search
returns-clause-search c = let given = returns-clause-gives c c.requires.0 c.requires.1 c.requires.2 c.requires.3 in
    (c.requires.0, c.requires.1, c.requires.2, given.1)
