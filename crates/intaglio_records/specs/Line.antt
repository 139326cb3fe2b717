-- Lines of entries. An entry is the hash and the slot that were placed.
use Rattle.std.specs.Prelude.{◌≡◌, ℕ, ◌/◌, ◌^◌, ◌≤◌, ◌==◌, List, [], ◌∷◌, cond, length, get_or}
use Rattle.intaglio_records.specs.declared.line.Line.{Line}

abbrev pub Entry : Type 0
Entry = ℕ × ℕ

-- the tag of a hash: its top eight bits, with 1 in place of 0
abbrev pub tag_of : ℕ → ℕ
tag_of hash = cond (hash / 2 ^ 56 == 0) 1 (hash / 2 ^ 56)

-- the entries, newest first, are in a line, which has the oldest at its front
abbrev pub AreIn : List ℕ → List ℕ → List Entry → Type 0
AreIn tags slots [] = Unit {0}
AreIn tags slots (e ∷ es) =
    (get_or tags (length es) 0 ≡ tag_of e.0) × (get_or slots (length es) 0 ≡ e.1) × AreIn tags slots es

-- a line has exactly these entries, newest first, and the number of another line
pub record IsLine (line : Line) (es : List Entry) (next : ℕ) : Type 0 where
  pub entries : AreIn line.tags line.slots es
  pub few : length es ≤ 11
  pub others : (i : ℕ) → length es ≤ i → get_or line.tags i 0 ≡ 0
  pub next_is : get_or line.slots 11 0 ≡ next
  pub tags : length line.tags ≡ 16
  pub slots : length line.slots ≡ 12
