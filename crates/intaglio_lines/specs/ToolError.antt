-- What errors say.
use Rattle.std.specs.Prelude.{ℕ, List, Bool}
use Rattle.intaglio_symbol.specs.declared.error.InternError.{InternError}
use Rattle.intaglio_symbol.specs.declared.error.InternError.TheVariants as intern_error
use Rattle.intaglio_lines.specs.declared.error.StreamError.{StreamError}
use Rattle.intaglio_lines.specs.declared.error.StreamError.TheVariants as stream_error
use Rattle.intaglio_lines.specs.LineForms.{IsFirstUnfit}
use Rattle.intaglio_lines.specs.declared.tool_error.ToolError.{ToolError}
use Rattle.intaglio_lines.specs.declared.tool_error.ToolError.TheVariants.{NotUtf8, ZeroByte, Memory, Overflow, Read, Write}

-- P holds of the line's number if the error is that a line has a zero byte
abbrev pub IfZeroByte : ToolError → (ℕ → Type 0) → Type 0
IfZeroByte (ZeroByte n) P = P n
IfZeroByte _ P = Unit {0}

-- if the error is that a line has a zero byte, that line is the first one that doesn't fit
abbrev pub ReportsFirstUnfit : (List ℕ → Bool) → List ℕ → ToolError → Type 0
ReportsFirstUnfit fits input error = IfZeroByte error (IsFirstUnfit fits input)

-- a line wasn't interned
abbrev pub IsInterningError : ToolError → Type 0
IsInterningError (ZeroByte n) = Unit {0}
IsInterningError Memory = Unit {0}
IsInterningError Overflow = Unit {0}
IsInterningError _ = ⊥

-- the lines weren't interned, or their output wasn't written
abbrev pub IsInterningOrWritingError : ToolError → Type 0
IsInterningOrWritingError (ZeroByte n) = Unit {0}
IsInterningOrWritingError Memory = Unit {0}
IsInterningOrWritingError Overflow = Unit {0}
IsInterningOrWritingError Write = Unit {0}
IsInterningOrWritingError _ = ⊥

-- an input that was read wasn't encoded
abbrev pub IsEncodingError : ToolError → Type 0
IsEncodingError NotUtf8 = Unit {0}
IsEncodingError (ZeroByte n) = Unit {0}
IsEncodingError Memory = Unit {0}
IsEncodingError Overflow = Unit {0}
IsEncodingError Write = Unit {0}
IsEncodingError _ = ⊥

-- the input isn't UTF-8, or wasn't read to its end
abbrev pub IsInputError : ToolError → Type 0
IsInputError NotUtf8 = Unit {0}
IsInputError Memory = Unit {0}
IsInputError Read = Unit {0}
IsInputError _ = ⊥

-- an interning's error as an error of a run
abbrev pub from_intern_error : InternError → ToolError
from_intern_error (intern_error.Overflow _) = Overflow
from_intern_error (intern_error.Memory _) = Memory

-- a stream's error as an error of a run
abbrev pub from_stream_error : StreamError → ToolError
from_stream_error stream_error.Memory = Memory
from_stream_error stream_error.Read = Read
from_stream_error stream_error.Write = Write
