-- What an encoded output contains, and what it is decoded to.
use Rattle.std.specs.Prelude.{◌≡◌, ◌≢◌, ℕ, ◌<◌, ◌==◌, Bool, true, List, [], ◌∷◌, ◌++◌, length, slice_index_or, if◌then◌else◌, Option, All}
use Rattle.std.specs.List.{flat_map}
use Rattle.std.specs.Io.KnownBytes.{Appends}
use Rattle.intaglio_lines.specs.Output.{output_of, spelling_line}

-- no byte is 10
abbrev pub IsLine : List ℕ → Type 0
IsLine bytes = All (λ byte. byte ≢ 10) bytes

-- the bytes are these symbols in decimal, an empty line and these spellings, each line ended by byte 10; each
-- symbol is the number of a spelling, counted from 0
pub record Holds (symbols : List ℕ) (spellings : List (List ℕ)) (bytes : List ℕ) : Type 0 where
  pub whole : bytes ≡ output_of symbols spellings
  pub lines : All IsLine spellings
  pub known : All (λ symbol. symbol < length spellings) symbols

-- the spelling of each symbol, followed by byte 10
abbrev pub decoded : List ℕ → List (List ℕ) → List ℕ
decoded symbols spellings = flat_map (λ symbol. spelling_line (slice_index_or spellings symbol [])) symbols

-- the bytes are well formed, and are decoded to this output
pub record Decodes (bytes output : List ℕ) : Type 0 where
  pub symbols : List ℕ
  pub spellings : List (List ℕ)
  pub holds : Holds symbols spellings bytes
  pub same : output ≡ decoded symbols spellings

-- known bytes grow by what these bytes are decoded to
abbrev pub AppendsDecoded : List ℕ → Option (List ℕ) → Option (List ℕ) → Type 0
AppendsDecoded bytes old new = (output : List ℕ) × Decodes bytes output × Appends old new output

-- the last byte is 10, or there is none
abbrev pub is_ended : List ℕ → Bool
is_ended [] = true
is_ended (byte ∷ []) = byte == 10
is_ended (byte ∷ next ∷ more) = is_ended (next ∷ more)

-- the bytes, with byte 10 added if the last line isn't ended
abbrev pub with_last_line_ended : List ℕ → List ℕ
with_last_line_ended bytes = if is_ended bytes then bytes else bytes ++ 10 ∷ []
