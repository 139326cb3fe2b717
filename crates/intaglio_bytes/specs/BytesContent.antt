-- What a contract sees of a `BytesContent`.
use Rattle.std.specs.Prelude.{ℕ, List, Vec}
use Rattle.std.specs.Borrow.{Bor}
use Rattle.std.specs.declared.alloc.Global.{Global}
use Rattle.intaglio_content.specs.ContentOf.{content_bytes}
use Rattle.intaglio_content.specs.declared.content_of.ContentOf.{ContentOf}
use Rattle.intaglio_bytes.specs.declared.bytes.BytesKind.{BytesKind}

-- bytes that a table stores
abbrev pub BytesContent : Type 0
BytesContent = ContentOf BytesKind (Bor (List ℕ)) (Vec ℕ Global)

-- the bytes
abbrev pub bytes_content_bytes : BytesContent → List ℕ
bytes_content_bytes = content_bytes (λ bytes. bytes.now) (λ bytes. bytes.items)
