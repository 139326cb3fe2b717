-- The text of tokens.
use Rattle.std.specs.Prelude.{ℕ, List, [], slice_get, unwrap_or, option_map, flat_map}
use Rattle.intaglio.specs.BytesContent.{bytes_content_bytes}
use Rattle.intaglio.specs.Types.{BytesContent}
use Rattle.example_interpreter.specs.declared.token.Token.{Token}

-- the text of a symbol
abbrev pub text_of : List BytesContent → ℕ → List ℕ
text_of texts symbol = unwrap_or (option_map bytes_content_bytes (slice_get texts symbol)) []

-- the concatenated texts of tokens
abbrev pub spelled : List BytesContent → List Token → List ℕ
spelled texts tokens = flat_map (λ token. text_of texts token.text) tokens
