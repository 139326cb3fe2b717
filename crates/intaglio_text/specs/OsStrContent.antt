-- What a contract sees of an `OsStrContent`.
use Rattle.std.specs.Prelude.{ℕ, List, String, string_bytes}
use Rattle.std.specs.Borrow.{Bor}
use Rattle.std.specs.declared.alloc.Global.{Global}
use Rattle.intaglio_content.specs.ContentOf.{content_bytes}
use Rattle.intaglio_content.specs.declared.content_of.ContentOf.{ContentOf}
use Rattle.intaglio_text.specs.declared.content.Utf8.{Utf8}
use Rattle.intaglio_text.specs.declared.content.AsOsStr.{AsOsStr}

-- an OS string that a table stores
abbrev pub OsStrContent : Type 0
OsStrContent = ContentOf (Utf8 AsOsStr) (Bor (List ℕ)) (String Global)

-- the UTF-8 bytes of the OS string
abbrev pub os_str_content_bytes : OsStrContent → List ℕ
os_str_content_bytes = content_bytes (λ text. text.now) string_bytes
