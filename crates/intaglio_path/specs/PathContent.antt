-- What a contract sees of a `PathContent`.
use Rattle.std.specs.Prelude.{ℕ, List, String, string_bytes}
use Rattle.std.specs.Borrow.{Bor}
use Rattle.std.specs.declared.alloc.Global.{Global}
use Rattle.intaglio_content.specs.ContentOf.{content_bytes}
use Rattle.intaglio_content.specs.declared.content_of.ContentOf.{ContentOf}
use Rattle.intaglio_path.specs.declared.content.PathKind.{PathKind}

-- a path that a table stores
abbrev pub PathContent : Type 0
PathContent = ContentOf PathKind (Bor (List ℕ)) (String Global)

-- the UTF-8 bytes of the path's text
abbrev pub path_content_bytes : PathContent → List ℕ
path_content_bytes = content_bytes (λ text. text.now) string_bytes
