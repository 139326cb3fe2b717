-- What is written of an encoded output that is read.
use Rattle.std.specs.Prelude.{ℕ, List, Option, IfSome}
use Rattle.intaglio_lines.specs.Decoded.{AppendsDecoded}

-- if the input is known, what it is decoded to is written
abbrev pub Restores : {W : Type 0} → Option (List ℕ) → (W → Option (List ℕ)) → W → W → Type 0
Restores known contents old new = IfSome known (λ input. AppendsDecoded input (contents old) (contents new))
