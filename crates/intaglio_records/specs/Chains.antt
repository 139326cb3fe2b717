-- Chains of lines, and the order of the entries in them. Lists have the newest entry or line first.
use Rattle.std.specs.Prelude.{◌≡◌, ℕ, ◌+◌, ◌*◌, ◌%◌, ◌^◌, ◌<◌, ◌≤◌, ◌==◌, nat_lt, ◌&&◌, List, [], ◌∷◌, cond, length, get_or, vec_capacity}
use Rattle.std.specs.Int.{IsPowerOfTwo}
use Rattle.intaglio_records.specs.declared.line.Line.{Line}
use Rattle.intaglio_records.specs.declared.lines.Lines.{Lines}
use Rattle.intaglio_records.specs.Line.{Entry, IsLine}

-- the entries of class c are in one chain, whose first line has the oldest of them, at most eleven
abbrev pub first_line : ℕ → ℕ → List Entry → List Entry
first_line base c [] = []
first_line base c (e ∷ es) =
    let old = first_line base c es in cond ((e.0 % base == c) && nat_lt (length old) 11) (e ∷ old) old

-- a line for what isn't in the first line of its chain: the class, and the entries
abbrev pub Overflow : Type 0
Overflow = ℕ × List Entry

-- how many entries the newest overflow line of class c has; eleven, as if it were full, if there is none
abbrev pub newest_length : ℕ → List Overflow → ℕ
newest_length c [] = 11
newest_length c (o ∷ os) = cond (o.0 == c) (length o.1) (newest_length c os)

-- the entry is added to the newest overflow line of its class
abbrev pub add : ℕ → Entry → List Overflow → List Overflow
add c e [] = []
add c e (o ∷ os) = cond (o.0 == c) ((o.0, e ∷ o.1) ∷ os) (o ∷ add c e os)

-- the newest overflow line takes the entry, or a new one if that is full
abbrev pub spill : ℕ → Entry → List Overflow → List Overflow
spill c e os = cond (nat_lt (newest_length c os) 11) (add c e os) ((c, e ∷ []) ∷ os)

-- all overflow lines
abbrev pub overflow : ℕ → List Entry → List Overflow
overflow base [] = []
overflow base (e ∷ es) =
    cond (nat_lt (length (first_line base (e.0 % base) es)) 11)
    (overflow base es)
    (spill (e.0 % base) e (overflow base es))

-- the number of the newest overflow line of class c, or 0
abbrev pub newest : ℕ → ℕ → List Overflow → ℕ
newest base c [] = 0
newest base c (o ∷ os) = cond (o.0 == c) (base + length os) (newest base c os)

abbrev pub no_line : Line
no_line = record { tags = []; slots = [] }

-- each overflow line is where it was made, and leads to the one before it of its class
abbrev pub AreBehind : ℕ → List Line → List Overflow → Type 0
AreBehind base lines [] = Unit {0}
AreBehind base lines (o ∷ os) =
    IsLine (get_or lines (base + length os) no_line) o.1 (newest base o.0 os) × AreBehind base lines os

-- the first lines of the chains, and the overflow lines behind them. A first line leads to the newest one
pub record AreChains (base : ℕ) (lines : List Line) (firsts : ℕ →
    List Entry) (os : List Overflow) : Type 0 where
  pub size : length lines ≡ base + length os
  pub firsts_are : (c : ℕ) → c < base → IsLine (get_or lines c no_line) (firsts c) (newest base c os)
  pub behind : AreBehind base lines os

abbrev pub firsts_of : ℕ → List Entry → ℕ → List Entry
firsts_of base es c = first_line base c es

-- the lines have exactly these entries, newest first
pub record IsFilled (lines : Lines) (es : List Entry) : Type 0 where
  pub chains : AreChains lines.base lines.lines.items (firsts_of lines.base es) (overflow lines.base es)
  pub power : 0 < lines.base → IsPowerOfTwo lines.base
  pub few : length es ≤ 8 * lines.base
  -- there is memory for as many overflow lines as can be needed, and for no more
  pub reserved : 19 * lines.base ≤ 11 * vec_capacity lines.lines + 10
  pub tight : 11 * vec_capacity lines.lines ≤ 19 * lines.base
  pub small : lines.base ≤ 2 ^ 29

-- how many entries there is room for
abbrev pub places_of : Lines → ℕ
places_of lines = 8 * lines.base

abbrev pub AreLines : Lines → Type 0
AreLines lines = (es : List Entry) × IsFilled lines es

-- one more entry can be placed
abbrev pub HaveRoom : Lines → Type 0
HaveRoom lines = (es : List Entry) × IsFilled lines es × (length es < places_of lines)

-- an entry more, if there is room
abbrev pub IsPlaced : ℕ → ℕ → Lines → Lines → Type 0
IsPlaced hash slot old new =
    (es : List Entry) → length es < places_of old → IsFilled old es → IsFilled new ((hash, slot) ∷ es)

-- the first line of class c is full
abbrev pub IsFirstFull : ℕ → Lines → Type 0
IsFirstFull c lines = (es : List Entry) → IsFilled lines es → 11 ≤ length (first_line lines.base c es)

-- and so is the newest overflow line, if there is one
abbrev pub AreOthersFull : ℕ → Lines → Type 0
AreOthersFull c lines = (es : List Entry) → IsFilled lines es → 11 ≤ newest_length c (overflow lines.base es)

-- the first line of class c leads to this line, or nowhere if that is 0
abbrev pub IsNewest : ℕ → ℕ → Lines → Type 0
IsNewest c number lines =
    (es : List Entry) → IsFilled lines es → number ≡ newest lines.base c (overflow lines.base es)

-- so many lines, without entries
pub record AreEmpty (lines : List Line) (count : ℕ) : Type 0 where
  pub size : length lines ≡ count
  pub each : (i : ℕ) → i < count → IsLine (get_or lines i no_line) [] 0

-- the newest entry, which has this hash, is removed
abbrev pub IsRemoved : ℕ → Lines → Lines → Type 0
IsRemoved hash old new = (slot : ℕ) (es : List Entry) → IsFilled old ((hash, slot) ∷ es) → IsFilled new es

-- the newest entry has this hash
abbrev pub EndWith : ℕ → Lines → Type 0
EndWith hash lines = (slot : ℕ) × (es : List Entry) × IsFilled lines ((hash, slot) ∷ es)
