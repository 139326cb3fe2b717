-- What the check that a group of strings has no places writes down.
use Rattle.std.specs.Prelude.{◌≡◌, ◌≢◌, ℕ, ◌<◌, ◌≤◌, List, length, get_or}
use Rattle.intaglio_frozen.specs.Layout.{groups_for}
use Rattle.intaglio_frozen.specs.Stuck.{group_at, size_in, IsBeforeAt}

-- these are the sizes of all groups
pub record AreSizes (hs sizes : List ℕ) : Type 0 where
  pub count : length sizes ≡ groups_for (length hs)
  pub each : (g : ℕ) → g < groups_for (length hs) → get_or sizes g 0 ≡ size_in hs g

-- these are some strings of a group, in their order
pub record AreMembers (hs : List ℕ) (g : ℕ) (members : List ℕ) : Type 0 where
  pub there : (k : ℕ) → k < length members → get_or members k 0 < length hs
  pub group : (k : ℕ) → k < length members → group_at hs (get_or members k 0) ≡ g
  pub order : (j k : ℕ) → j < k → k < length members → get_or members j 0 < get_or members k 0

-- the mark of a place that a group before has
abbrev pub taken_mark : ℕ
taken_mark = 0xffff_ffff

-- a place with that mark is the place of a string of a group before g, and other marks are at most n
pub record AreMarked (hs : List ℕ) (pilots : ℕ → ℕ) (g : ℕ) (marks : List ℕ) (n : ℕ) : Type 0 where
  pub taken : (p : ℕ) → get_or marks p 0 ≡ taken_mark → (i : ℕ) × IsBeforeAt hs pilots g p i
  pub others : (p : ℕ) → get_or marks p 0 ≢ taken_mark → get_or marks p 0 ≤ n
