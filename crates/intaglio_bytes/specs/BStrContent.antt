-- What a contract sees of a `BStrContent`.
use Rattle.std.specs.Prelude.{ℕ, List}
use Rattle.bstr.specs.BStr.{bstr_bytes}
use Rattle.bstr.specs.Owned.{bstring_bytes}
use Rattle.bstr.specs.declared.bstr.BStr.{BStr}
use Rattle.bstr.specs.declared.bstring.BString.{BString}
use Rattle.intaglio_content.specs.ContentOf.{content_bytes}
use Rattle.intaglio_content.specs.declared.content_of.ContentOf.{ContentOf}
use Rattle.intaglio_bytes.specs.declared.b_str.BStrKind.{BStrKind}

-- a byte string that a table stores
abbrev pub BStrContent : Type 0
BStrContent = ContentOf BStrKind BStr BString

-- the bytes of the byte string
abbrev pub bstr_content_bytes : BStrContent → List ℕ
bstr_content_bytes = content_bytes bstr_bytes bstring_bytes
