-- What a run promises of the input that it reads.
use Rattle.std.specs.Prelude.{◌≡◌, ◌≢◌, ℕ, ◌^◌, ◌<◌, List, Bool, Option, Result, Err, String, map, string_bytes, IfErr, IfSome, OnOk}
use Rattle.std.specs.Io.KnownBytes.{IsAtEnd}
use Rattle.intaglio_lines.specs.LineForms.{AllLinesFit, distinct_count}
use Rattle.intaglio_content.specs.Key.{Key}
use Rattle.intaglio_lines.specs.Encoded.{encoded, encoded_by}
use Rattle.intaglio_lines.specs.Kind.{Allows, is_fit, key_of, kind_of_words}
use Rattle.intaglio_lines.specs.Puts.{Writes, WritesOnlyIf}
use Rattle.intaglio_lines.specs.ToolError.{IsInterningOrWritingError, ReportsFirstUnfit}
use Rattle.intaglio_lines.specs.declared.kind.Kind.{Kind}
use Rattle.intaglio_lines.specs.declared.tool_error.ToolError.{ToolError}
use Rattle.intaglio_lines.specs.declared.tool_error.ToolError.TheVariants.{Overflow, Write}

-- if the input is known, its encoding is written
abbrev pub Encodes : {W : Type 0} → Kind → Option (List ℕ) → (W → Option (List ℕ)) → W → W → Type 0
Encodes kind known contents old new = IfSome known (λ input. Writes contents old new (encoded kind input))

-- the same, for the kind that the arguments name
abbrev pub EncodesBy : {W Z : Type 0} → List (String Z) → Option (List ℕ) → (W → Option (List ℕ)) →
    W → W → Type 0
EncodesBy words known contents old new =
    IfSome (kind_of_words (map string_bytes words)) (λ kind. Encodes kind known contents old new)

-- the input can't be split into lines of this kind
abbrev pub Forbids : Kind → List ℕ → Type 0
Forbids kind input = ¬ (Allows kind input)

-- all of the input was read, and it can't be split into lines of this kind
abbrev pub ReadsForbidden : Kind → Option (List ℕ) → Option (List ℕ) → Type 0
ReadsForbidden kind old new = IfSome old (Forbids kind) × IsAtEnd new

-- the input can be split into lines of this kind, and each line fits
abbrev pub Accepts : Kind → List ℕ → Type 0
Accepts kind input = Allows kind input × AllLinesFit (is_fit kind) input

-- the status is 1, and nothing is written, if the input isn't one that the kind of the arguments accepts
abbrev pub RefusesBy : {W Z : Type 0} → List (String Z) → Option (List ℕ) → ℕ → W → W → Type 0
RefusesBy words known status old new =
    IfSome (kind_of_words (map string_bytes words)) (λ kind. IfSome known (λ input. ¬ (Accepts kind input) →
    (status ≡ 1) × (new ≡ old)))

-- there are more distinct lines than symbols
abbrev pub IsTooMany : Kind → List ℕ → Type 0
IsTooMany kind input = 2 ^ 32 < distinct_count (key_of kind) input

-- what a call does that encodes an input whose lines become contents with this key, if such lines fit
pub record IsEncoding {T W : Type 0} (contents : W → Option (List ℕ)) (key : List ℕ → Key)
    (fits : List ℕ → Bool) (input : List ℕ) (result : Result T ToolError) (old new : W) : Type 0 where
  pub written : OnOk result (Writes contents old new (encoded_by key input))
  pub zero : IfErr result (ReportsFirstUnfit fits input)
  pub fit : WritesOnlyIf (AllLinesFit fits input) result old new
  pub overflow : result ≡ Err Overflow → 2 ^ 32 < distinct_count key input
  pub nothing_written : IfErr result (λ e. e ≢ Write → new ≡ old)
  pub err : IfErr result IsInterningOrWritingError
