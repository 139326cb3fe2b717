-- What is written through a block.
use Rattle.std.specs.Prelude.{◌≡◌, ℕ, List, Vec, Option, Result, OnOk, take}
use Rattle.std.specs.Io.KnownBytes.{Appends, append_known}

-- these bytes are written, by a writer with these contents
abbrev pub Writes : {W : Type 0} → (W → Option (List ℕ)) → W → W → List ℕ → Type 0
Writes contents old new bytes = Appends (contents old) (contents new) bytes

-- the front of these bytes is written: none of them, all, or some of the first
abbrev pub IsFront : Option (List ℕ) → Option (List ℕ) → List ℕ → Type 0
IsFront old new bytes = (n : ℕ) × Appends old new (take n bytes)

abbrev pub WritesFront : {W : Type 0} → (W → Option (List ℕ)) → W → W → List ℕ → Type 0
WritesFront contents old new bytes = IsFront (contents old) (contents new) bytes

-- what was written, and then the block
abbrev pub held : {W Z : Type 0} → (W → Option (List ℕ)) → W → Vec ℕ Z → Option (List ℕ)
held contents writer block = append_known (contents writer) block.items

-- these bytes are put to the block, or written
abbrev pub Puts : {W Z : Type 0} → (W → Option (List ℕ)) → W → Vec ℕ Z → W → Vec ℕ Z → List ℕ → Type 0
Puts contents old old_block new new_block bytes =
    Appends (held contents old old_block) (held contents new new_block) bytes

-- the call succeeds only if P holds, and nothing is written if it doesn't
abbrev pub WritesOnlyIf : {T E W : Type 0} → Type 0 → Result T E → W → W → Type 0
WritesOnlyIf P result old new = OnOk result P × (¬ P → new ≡ old)
