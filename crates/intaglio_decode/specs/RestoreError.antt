-- What errors say.
use Rattle.std.specs.Prelude.{◌≡◌, Result, Ok, Err, Option, Some, string_bytes}
use Rattle.intaglio_lines.specs.Fault.{Fault}
use Rattle.intaglio_lines.specs.declared.error.StreamError.TheVariants as stream_error
use Rattle.intaglio_decode.specs.declared.error.RestoreError.{RestoreError}
use Rattle.intaglio_decode.specs.declared.error.RestoreError.TheVariants.{NotANumber, NoString, NoEmptyLine, NotEnded, Stream}

-- the error reports this fault, or that something failed
abbrev pub Reports : RestoreError → Option Fault → Type 0
Reports (NotANumber line) fault = fault ≡ Some (Fault.not_a_number line)
Reports (NoString line number) fault = fault ≡ Some (Fault.no_string line (string_bytes number))
Reports NoEmptyLine fault = fault ≡ Some Fault.no_empty_line
Reports NotEnded fault = fault ≡ Some Fault.not_ended
Reports (Stream failure) fault = Unit {0}

-- an input that was read isn't well formed, or it is out of memory
abbrev pub IsParsingError : RestoreError → Type 0
IsParsingError (Stream stream_error.Read) = ⊥
IsParsingError (Stream stream_error.Write) = ⊥
IsParsingError _ = Unit {0}

-- P holds if the error says that the input is wrong
abbrev pub IfFault : RestoreError → Type 0 → Type 0
IfFault (Stream failure) P = Unit {0}
IfFault _ P = P

-- the run ended with a fault of the input, or before the end of the input
abbrev pub IsRefused : {T : Type 0} → Result T RestoreError → Type 0
IsRefused (Ok x) = ⊥
IsRefused (Err (Stream stream_error.Write)) = ⊥
IsRefused (Err _) = Unit {0}
