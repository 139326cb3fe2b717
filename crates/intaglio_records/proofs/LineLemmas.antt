-- What a line has, and how it changes.
use Rattle.intaglio_records.proofs.Names.{common_steps, cases_eq, get_or-set_same, get_or-set_other, length-set, Line, Entry, tag_of, AreIn, IsLine}
use Rattle.std.proofs.Common.{◌≡◌, ◌≢◌, ℕ, ◌<◌, ◌≤◌, List, [], ◌∷◌, length, get_or, set, ◌∙◌, arith}

-- a tag isn't 0
pub tag-some : (hash : ℕ) → 0 < tag_of hash
tag-some hash = grind (arith, common_steps)

-- an entry has a tag
pub entry-tag : (tags slots : List ℕ) (es : List Entry) (i : ℕ) → AreIn tags slots es → i < length es →
    0 < get_or tags i 0
entry-tag tags slots [] i are lt = omega arith
entry-tag tags slots (e ∷ es) i are lt = grind (arith, common_steps, cases_eq i (length es), tag-some e.0, entry-tag tags slots es i are.2)

-- what is written behind the entries changes none of them
pub kept-by-tag : (tags slots : List ℕ) (es : List Entry) (i x : ℕ) → length es ≤ i → AreIn tags slots es →
    AreIn (set tags i x) slots es
kept-by-tag tags slots [] i x le are = tt
kept-by-tag tags slots (e ∷ es) i x le are = grind (arith, common_steps, get_or-set_other, kept-by-tag tags slots es i x (omega arith) are.2)

-- a slot that is written behind the entries of a line changes none of them
pub kept-by-slot : (tags slots : List ℕ) (es : List Entry) (i x : ℕ) → length es ≤ i → AreIn tags slots es →
    AreIn tags (set slots i x) es
kept-by-slot tags slots [] i x le are = tt
kept-by-slot tags slots (e ∷ es) i x le are = grind (arith, common_steps, get_or-set_other, kept-by-slot tags slots es i x (omega arith) are.2)

-- a line whose newest entry's tag is set to 0 has the entries before it
pub line-remove : (line : Line) (e : Entry) (es : List Entry) (next count : ℕ) → count < 11 →
    IsLine line (e ∷ es) next → count ≡ length es →
    IsLine (record { tags = set line.tags count 0; slots = line.slots }) es next
line-remove line e es next count few is at =
    record {
      entries = kept-by-tag line.tags line.slots es count 0 (omega (arith, at)) is.entries.2;
      few = omega (arith, few, at);
      others = λ i le. grind (arith, common_steps, cases_eq i count, get_or-set_same, get_or-set_other, is.others i);
      next_is = is.next_is;
      tags = length-set line.tags count 0 ∙ is.tags;
      slots = is.slots;
    }

-- what the proofs of calls of a line use
pub ruleset line_rules = (common_steps, get_or-set_same, kept-by-slot, kept-by-tag, get_or-set_other, length-set)
