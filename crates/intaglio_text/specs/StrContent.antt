-- What a contract sees of a `StrContent`.
use Rattle.std.specs.Prelude.{ℕ, List, String, string_bytes}
use Rattle.std.specs.Borrow.{Bor}
use Rattle.std.specs.declared.alloc.Global.{Global}
use Rattle.intaglio_content.specs.ContentOf.{content_bytes}
use Rattle.intaglio_content.specs.declared.content_of.ContentOf.{ContentOf}
use Rattle.intaglio_text.specs.declared.content.Utf8.{Utf8}
use Rattle.intaglio_text.specs.declared.content.AsText.{AsText}

-- a text that a table stores
abbrev pub StrContent : Type 0
StrContent = ContentOf (Utf8 AsText) (Bor (List ℕ)) (String Global)

-- the UTF-8 bytes of the text
abbrev pub str_content_bytes : StrContent → List ℕ
str_content_bytes = content_bytes (λ text. text.now) string_bytes
