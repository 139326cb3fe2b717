-- Where the sections of a frozen table are, as numbers that a caller keeps.
use Rattle.std.specs.Prelude.{◌≡◌, ◌+◌, ◌-◌, ◌*◌, ◌<◌, ◌≤◌, ℕ, List}
use Rattle.intaglio_frozen.specs.Layout.{kind, key0, key1, count, places, groups, ends_at, pilots_at, tags_at, text_at}
use Rattle.intaglio_frozen.specs.IsFrozen.{HasSections}
use Rattle.intaglio_frozen.specs.declared.sections.Sections.{Sections}

-- these are the numbers that the header of bytes makes, and the sections are within the bytes
pub record AreSectionsOf (bs : List ℕ) (s : Sections) : Type 0 where
  pub within : HasSections bs
  pub key0 : s.key0 ≡ key0 bs
  pub key1 : s.key1 ≡ key1 bs
  pub count : s.count ≡ count bs
  pub starts_at : s.starts_at ≡ ends_at bs - 4
  pub pilots_at : s.pilots_at ≡ pilots_at bs
  pub tags_at : s.tags_at ≡ tags_at bs
  pub text_at : s.text_at ≡ text_at bs
  pub places : s.places ≡ places bs
  pub groups : s.groups ≡ groups bs
  pub kind : s.kind ≡ kind bs

-- by these numbers the sections follow each other within n bytes, whatever stands there
pub record AreWithin (n : ℕ) (s : Sections) : Type 0 where
  pub count : s.count < s.places
  pub groups : 0 < s.groups
  pub starts_at : s.starts_at ≡ 124 + 4 * s.places
  pub pilots_at : s.pilots_at ≡ s.starts_at + 4 + 4 * s.count
  pub tags_at : s.tags_at ≡ s.pilots_at + 2 * s.groups
  pub text_at : s.text_at ≡ s.tags_at + s.places
  pub all : s.text_at ≤ n
