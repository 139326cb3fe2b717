-- A group of strings that has no places: why strings aren't frozen under some keys.
use Rattle.std.specs.Prelude.{◌≡◌, ℕ, ◌<◌, ◌^◌, ◌==◌, ◌⊎◌, List, length, get_or}
use Rattle.std.specs.List.{count_by}
use Rattle.intaglio_frozen.specs.Layout.{places_for, groups_for}
use Rattle.intaglio_frozen.specs.LookUp.{scaled, mixed}

-- of strings with these hashes, the group of string i, and its place if its group has the pilot q
abbrev pub group_at : List ℕ → ℕ → ℕ
group_at hs i = scaled (groups_for (length hs)) (get_or hs i 0)

abbrev pub place_under : List ℕ → ℕ → ℕ → ℕ
place_under hs i q = scaled (places_for (length hs)) (mixed (get_or hs i 0) q)

-- how many strings a group has
abbrev pub size_in : List ℕ → ℕ → ℕ
size_in hs g = count_by (λ h. scaled (groups_for (length hs)) h == g) hs

-- group f is placed before group g: it is larger, or as large and has the lower number
abbrev pub IsBefore : List ℕ → ℕ → ℕ → Type 0
IsBefore hs f g = (size_in hs g < size_in hs f) ⊎ ((size_in hs g ≡ size_in hs f) × (f < g))

-- string i has the place p, and its group is placed before group g and has this pilot
pub record IsBeforeAt (hs : List ℕ) (pilots : ℕ → ℕ) (g p i : ℕ) : Type 0 where
  pub there : i < length hs
  pub before : IsBefore hs (group_at hs i) g
  pub place : place_under hs i (pilots (group_at hs i)) ≡ p

-- string i is in group g and has the place p under the pilot q, as string j behind it has
pub record IsEarlierAt (hs : List ℕ) (g q p j i : ℕ) : Type 0 where
  pub earlier : i < j
  pub group : group_at hs i ≡ g
  pub place : place_under hs i q ≡ p

-- under the pilot q, string j of group g gets the place of a string that is before it
pub record HasNoPlace (hs : List ℕ) (pilots : ℕ → ℕ) (g q j : ℕ) : Type 0 where
  pub there : j < length hs
  pub group : group_at hs j ≡ g
  pub taken : (i : ℕ) × (IsBeforeAt hs pilots g (place_under hs j q) i
      ⊎ IsEarlierAt hs g q (place_under hs j q) j i)

-- no two strings of groups that are placed before group g have the same place
abbrev pub HaveOwnPlaces : List ℕ → (ℕ → ℕ) → ℕ → Type 0
HaveOwnPlaces hs pilots g = (p i j : ℕ) → i < j → IsBeforeAt hs pilots g p i → ¬ IsBeforeAt hs pilots g p j

-- where the groups before it have these pilots, their strings have places of their own, and a string of this
-- group has none, whichever pilot it gets
pub record IsStuck (hs : List ℕ) : Type 0 where
  pub pilots : ℕ → ℕ
  pub few : (g : ℕ) → pilots g < 2 ^ 16
  pub group : ℕ
  pub own : HaveOwnPlaces hs pilots group
  pub none : (q : ℕ) → q < 2 ^ 16 → (j : ℕ) × HasNoPlace hs pilots group q j
