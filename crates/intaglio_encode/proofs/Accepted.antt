-- A call that writes only if the lines fit, where the input is allowed, writes only if both hold.
use Rattle.std.proofs.Common.{Result, Ok, Err}
use Rattle.std.specs.Prelude.{IfErr}
use Rattle.intaglio_lines.specs.Puts.{WritesOnlyIf}
use Rattle.intaglio_lines.specs.ToolError.{IsEncodingError, IsInterningOrWritingError}
use Rattle.intaglio_lines.specs.declared.tool_error.ToolError.{ToolError}
use Rattle.intaglio_lines.specs.declared.tool_error.ToolError.TheVariants.{NotUtf8, ZeroByte, Memory, Overflow, Read, Write}

-- if P holds, a call that succeeds and writes only if Q holds does so only if both hold
pub writes-if-both : {T E W : Type 0} (P Q : Type 0) (result : Result T E) (old new : W) → P →
    WritesOnlyIf Q result old new → WritesOnlyIf (P × Q) result old new
writes-if-both P Q (Ok x) old new p writes = ((p, writes.0), λ no. writes.1 (λ q. no (p, q)))
writes-if-both P Q (Err e) old new p writes = (tt, λ no. writes.1 (λ q. no (p, q)))

-- an error of interning or writing is one of encoding
pub encodes : {T : Type 0} (result : Result T ToolError) → IfErr result IsInterningOrWritingError →
    IfErr result IsEncodingError
encodes (Ok x) h = tt
encodes (Err NotUtf8) h = absurd h
encodes (Err (ZeroByte n)) h = tt
encodes (Err Memory) h = tt
encodes (Err Overflow) h = tt
encodes (Err Read) h = absurd h
encodes (Err Write) h = tt
