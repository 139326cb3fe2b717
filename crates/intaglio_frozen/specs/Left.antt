-- What is left of the strings of a block.
use Rattle.std.specs.Prelude.{◌+◌, ◌*◌, ◌≤◌, length}
use Rattle.intaglio_frozen.specs.Strings.{AreEnds}
use Rattle.intaglio_frozen.specs.Layout.{numbers_at}
use Rattle.intaglio_frozen.specs.declared.iter.FrozenStrings.TheInside.{Inside}

pub record IsLeft (s : Inside) : Type 0 where
  pub within : s.at + 4 * s.left ≤ length s.bytes.now
  pub ends : AreEnds s.start (length s.text.now) (numbers_at s.bytes.now s.at s.left)
