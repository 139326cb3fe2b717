-- What the error of a run says.
use Rattle.intaglio_lines.specs.declared.tool_error.ToolError.{ToolError}
use Rattle.intaglio_encode.specs.declared.error.RunError.{RunError}
use Rattle.intaglio_encode.specs.declared.error.RunError.TheVariants.{NoSeed, Encode}

-- P holds of the encoding's error if the error is one
abbrev pub IfEncode : RunError → (ToolError → Type 0) → Type 0
IfEncode (Encode error) P = P error
IfEncode NoSeed P = Unit {0}
