-- The lowest bit is the first slot left (`picked-first`). Clearing it lowers `most_left`, and so does
-- `advance`: the line's number counts 12 times, and the next line brings at most eleven bits (`bits-few`).
use Rattle.intaglio_records.proofs.Names.{common_steps, bit_at, trailing_zeros, bit_at-zero, bit_at-trailing_zeros, bit_at_clear_same, bit_at_clear_other, no_line, overflow_slots, picked}
use Rattle.std.proofs.Common.{◌≡◌, ◌≢◌, ℕ, ◌-◌, ◌*◌, ◌%◌, ◌^◌, ◌<◌, ◌++◌, get_or, refl, arith, w64, bit_and}
use Rattle.intaglio_records.specs.Search.{most_left}
use Rattle.intaglio_records.proofs.Searching.{picked-none, picked-first, overflow-none, bits-few, bits-fewer}
use Rattle.intaglio_records.proofs.search.Candidates.next.Goals as goal

pub returns-then-self-eq0-clause-gives : goal.returns-then-self-eq0-clause-gives
returns-then-self-eq0-clause-gives c left was =
    let is = c.loop-self.invariant.left left was in
    (grind (arith, common_steps, is.left_is, is.next, is.based, picked-none, bit_at-zero, overflow-none), is)

pub slot-requires : goal.slot-requires
slot-requires c =
    let is = c.loop-self.invariant.search.1 in
    let low = bit_at-trailing_zeros w64 c.loop-self.self.equal (omega (arith, c.loop-self-test.false)) (omega arith) in
    omega (arith, is.bits (trailing_zeros w64 c.loop-self.self.equal) low.0 low.1, is.few)

pub returns-clause-gives : goal.returns-clause-gives
returns-clause-gives c left was =
    let s = c.loop-self.self in
    let is = c.loop-self.invariant.left left was in
    let some : 0 < s.equal = omega (arith, c.loop-self-test.false) in
    let p = trailing_zeros w64 s.equal in
    let low = bit_at-trailing_zeros w64 s.equal some (omega arith) in
    let slots = (get_or s.lines.now s.line no_line).slots in
    let fewer = bit_and s.equal (2 ^ 64 - 1 - 1 * 2 ^ p % 2 ^ 64) in
    let gone : bit_at fewer p ≡ 0 = bit_at_clear_same w64 s.equal p low.0 in
    let others : (i : ℕ) → i < 64 → i ≢ p → bit_at fewer i ≡ bit_at s.equal i =
    λ i l. bit_at_clear_other w64 s.equal p low.0 i l in
    let first = picked-first s.equal fewer slots p is.count (is.bits p low.0 low.1) low.1 low.2 gone
    (λ i l. others i (omega (arith, l, is.few))) in
    let rest = picked fewer slots is.count ++ overflow_slots is.class s.tag is.behind in (
      rest,
      grind (arith, is.left_is, first, c.slot.ensures),
      record {
        base = is.base;
        class = is.class;
        count = is.count;
        behind = is.behind;
        some = is.some;
        few = is.few;
        bits = grind (arith, common_steps);
        line = λ more. is.line some;
        based = is.based;
        size = is.size;
        next = is.next;
        lines = is.lines;
        left_is = refl;
      },
    )

pub loop-self-preserved : goal.loop-self-preserved
unfolding most_left
loop-self-preserved c =
    let old = c.loop-self.invariant in
    record {
      search = (old.search.0, c.advance.ensures.left old.search.0 old.search.1);
      left = λ left is. c.advance.ensures.left left (old.left left is);
      fewer = omega (arith, old.fewer, c.advance.ensures.older, bits-few c.advance.new.self.equal 11);
    }

pub returns-clause-fewer : goal.returns-clause-fewer
unfolding most_left
returns-clause-fewer c =
    let s = c.loop-self.self in
    let is = c.loop-self.invariant.search.1 in
    let p = trailing_zeros w64 s.equal in
    let low = bit_at-trailing_zeros w64 s.equal (omega (arith, c.loop-self-test.false)) (omega arith) in
    let fewer = bits-fewer s.equal (bit_and s.equal (2 ^ 64 - 1 - 1 * 2 ^ p % 2 ^ 64)) p 11 (omega (arith, is.bits p low.0 low.1, is.few)) low.1
    (bit_at_clear_same w64 s.equal p low.0) (λ i l. bit_at_clear_other w64 s.equal p low.0 i (omega (arith, l))) in
    omega (arith, fewer, c.loop-self.invariant.fewer)

pub returns-clause-search : goal.returns-clause-search
returns-clause-search c = let given = returns-clause-gives c c.requires.0 c.requires.1 in (given.0, given.2)
