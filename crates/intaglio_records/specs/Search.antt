-- What a search by a hash finds: the slots of the entries that may have it.
use Rattle.std.specs.Prelude.{◌≡◌, ℕ, zero, suc, ◌+◌, ◌*◌, ◌%◌, ◌<◌, ◌≤◌, ◌==◌, ◌&&◌, List, [], ◌∷◌, ◌++◌, cond, length, get_or, Option, MatchOption}
use Rattle.std.specs.Int.{bit_at}
use Rattle.std.specs.List.Sorted.{IsPermutation}
use Rattle.intaglio_records.specs.declared.lines.Lines.{Lines}
use Rattle.intaglio_records.specs.declared.search.Candidates.{Candidates}
use Rattle.intaglio_records.specs.Line.{Entry, tag_of}
use Rattle.intaglio_records.specs.Chains.{Overflow, first_line, overflow, newest, no_line, AreBehind, IsFilled}

-- the slots of a line's entries with this tag, from its front
abbrev pub slots_with : ℕ → List Entry → List ℕ
slots_with tag [] = []
slots_with tag (e ∷ es) = slots_with tag es ++ cond (tag_of e.0 == tag) (e.1 ∷ []) []

-- those of the overflow lines of class c
abbrev pub overflow_slots : ℕ → ℕ → List Overflow → List ℕ
overflow_slots c tag [] = []
overflow_slots c tag (o ∷ os) =
    cond (o.0 == c) (slots_with tag o.1 ++ overflow_slots c tag os) (overflow_slots c tag os)

-- those of all lines, in the order of a search
abbrev pub candidates : ℕ → ℕ → List Entry → List ℕ
candidates base hash es =
    slots_with (tag_of hash) (first_line base (hash % base) es)
    ++ overflow_slots (hash % base) (tag_of hash) (overflow base es)

-- the slots of all entries that are of the hash's class and have its tag
abbrev pub slots_of : ℕ → ℕ → List Entry → List ℕ
slots_of base hash [] = []
slots_of base hash (e ∷ es) =
    cond ((e.0 % base == hash % base) && (tag_of e.0 == tag_of hash)) (e.1 ∷ []) [] ++ slots_of base hash es

-- a search gives each of them once
abbrev pub AreFound : ℕ → ℕ → List Entry → Type 0
AreFound base hash es = IsPermutation (slots_of base hash es) (candidates base hash es)

-- the slots at the first n places whose bits are set
abbrev pub picked : ℕ → List ℕ → ℕ → List ℕ
picked bits slots zero = []
picked bits slots (suc n) = picked bits slots n ++ cond (bit_at bits n == 1) (get_or slots n 0 ∷ []) []

-- with every entry found
abbrev pub FindsAll : ℕ → Lines → Type 0
FindsAll hash lines = (es : List Entry) → IsFilled lines es → AreFound lines.base hash es

-- the slots of the line that a search reads
abbrev pub slots_at : Candidates → List ℕ
slots_at search = (get_or search.lines.now search.line no_line).slots

-- the slots that a search has still to give: those of the bits that are set, and those of the lines behind
pub record IsLeft (search : Candidates) (left : List ℕ) : Type 0 where
  pub base : ℕ
  pub class : ℕ
  pub count : ℕ
  pub behind : List Overflow
  pub some : 0 < search.tag
  pub few : count ≤ 11
  pub bits : (i : ℕ) → i < 64 → bit_at search.equal i ≡ 1 → i < count
  pub line : 0 < search.equal → search.line < length search.lines.now
  pub based : 0 < base
  pub size : 0 < length behind → base + length behind ≤ length search.lines.now
  pub next : search.next ≡ newest base class behind
  pub lines : AreBehind base search.lines.now behind
  pub left_is : left ≡ picked search.equal (slots_at search) count ++ overflow_slots class search.tag behind

-- a search by a hash, at its beginning
abbrev pub IsSearchFor : ℕ → Lines → Candidates → Type 0
IsSearchFor hash lines search =
    (es : List Entry) → IsFilled lines es → IsLeft search (candidates lines.base hash es)

abbrev pub IsSearch : Candidates → Type 0
IsSearch search = (left : List ℕ) × IsLeft search left

-- the same slots are left
abbrev pub LeavesAll : Candidates → Candidates → Type 0
LeavesAll old new = (left : List ℕ) → IsLeft old left → IsLeft new left

-- the first of the slots that are left, if there are any
abbrev pub GivesNext : Candidates → Option ℕ → Candidates → Type 0
GivesNext old result new =
    (left : List ℕ) → IsLeft old left →
    MatchOption result ((left ≡ []) × IsLeft new left) (λ slot. (rest : List ℕ) × (left ≡ slot ∷ rest)
    × IsLeft new rest)

-- how many of the first n bits are set
abbrev pub bits_below : ℕ → ℕ → ℕ
bits_below bits zero = 0
bits_below bits (suc n) = bits_below bits n + bit_at bits n

-- no more slots than this are left: it falls with each one that a search gives, so a loop over them ends
unfoldable pub most_left : Candidates → ℕ
most_left search = 12 * search.next + bits_below search.equal 11
