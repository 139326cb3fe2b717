-- The lines of an input that were interned so far.
use Rattle.std.specs.Prelude.{◌≡◌, ℕ, ◌^◌, Bool, true, List, ◌++◌, Option}
use Rattle.std.specs.Io.KnownBytes.{Consumes}
use Rattle.intaglio_interner.specs.State.{State}
use Rattle.intaglio_lines.specs.Decoded.{is_ended}
use Rattle.intaglio_lines.specs.Lines.{lines_of}
use Rattle.intaglio_frozen.specs.declared.kind.FrozenKind.{FrozenKind}
use Rattle.intaglio_columns.specs.Frozen.{Allows, distinct_lines, line_symbols}
use Rattle.intaglio_columns.specs.Translation.{count_of}

-- a table has the distinct lines of these bytes, which are allowed; if the symbols are kept, they are those
-- of the lines, and the count is that of the lines
pub record IsInterned (kind : FrozenKind) (is_kept : Bool) (bytes : List ℕ) (state : State (List ℕ))
    (symbols : List ℕ) (count : ℕ) : Type 0 where
  pub held : state.contents ≡ distinct_lines bytes
  pub limit : state.limit ≡ 2 ^ 32
  pub issued : is_kept ≡ true → symbols ≡ line_symbols bytes
  pub counted : count ≡ count_of (lines_of bytes)
  pub allowed : Allows kind bytes

-- whole lines at the front of an input were interned, then these bytes were read, and the rest is left
pub record HasInterned (kind : FrozenKind) (is_kept : Bool) (input left : Option (List ℕ)) (bytes : List ℕ)
    (state : State (List ℕ)) (symbols : List ℕ) (count : ℕ) : Type 0 where
  pub front : List ℕ
  pub ended : is_ended front ≡ true
  pub read : Consumes input left (front ++ bytes)
  pub done : IsInterned kind is_kept front state symbols count
