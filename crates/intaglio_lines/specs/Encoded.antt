-- What is written for an input.
use Rattle.std.specs.Prelude.{ℕ, List, []}
use Rattle.intaglio_content.specs.Key.{Key}
use Rattle.intaglio_interner.specs.Issue.{issue, interned_all}
use Rattle.intaglio_lines.specs.Lines.{lines_of}
use Rattle.intaglio_lines.specs.Output.{output_of}
use Rattle.intaglio_lines.specs.Kind.{key_of}
use Rattle.intaglio_lines.specs.declared.kind.Kind.{Kind}

-- what is written if contents are compared by a key of their spelling
abbrev pub encoded_by : (List ℕ → Key) → List ℕ → List ℕ
encoded_by key input = output_of (issue key (lines_of input)) (interned_all key [] (lines_of input))

-- what is written for an input whose lines are contents of a kind
abbrev pub encoded : Kind → List ℕ → List ℕ
encoded kind input = encoded_by (key_of kind) input
