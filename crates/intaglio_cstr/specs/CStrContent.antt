-- What a contract sees of a `CStrContent`.
use Rattle.std.specs.Prelude.{ℕ, List}
use Rattle.intaglio_content.specs.ContentOf.{content_bytes}
use Rattle.intaglio_content.specs.declared.content_of.ContentOf.{ContentOf}
use Rattle.intaglio_cstr.specs.CStr.{c_str_spelling}
use Rattle.intaglio_cstr.specs.declared.c_str.CStr.{CStr}
use Rattle.intaglio_cstr.specs.declared.content.CStrKind.{CStrKind}

-- a C string that a table stores
abbrev pub CStrContent : Type 0
CStrContent = ContentOf CStrKind CStr (List ℕ)

-- the bytes before the final zero
abbrev pub c_str_content_bytes : CStrContent → List ℕ
c_str_content_bytes = content_bytes c_str_spelling (λ text. text)
