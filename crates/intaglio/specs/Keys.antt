-- The key of a content of each kind, by which contents are equal: the `Keyed::key` of its type.
use Rattle.std.specs.Prelude.{[], ◌∷◌}
use Rattle.intaglio_content.specs.Key.{Key}
use Rattle.intaglio_text.specs.StrContent.{str_content_bytes}
use Rattle.intaglio_text.specs.OsStrContent.{os_str_content_bytes}
use Rattle.intaglio_bytes.specs.BytesContent.{bytes_content_bytes}
use Rattle.intaglio_bytes.specs.BStrContent.{bstr_content_bytes}
use Rattle.intaglio_cstr.specs.CStrContent.{c_str_content_bytes}
use Rattle.intaglio_path.specs.Components.{components}
use Rattle.intaglio_path.specs.PathContent.{path_content_bytes}
use Rattle.intaglio.specs.Types.{StrContent, OsStrContent, BytesContent, BStrContent, CStrContent, PathContent}

-- a text's bytes
abbrev pub str_key : StrContent → Key
str_key content = str_content_bytes content ∷ []

-- an OS string's bytes
abbrev pub os_str_key : OsStrContent → Key
os_str_key content = os_str_content_bytes content ∷ []

-- the bytes
abbrev pub bytes_key : BytesContent → Key
bytes_key content = bytes_content_bytes content ∷ []

-- a byte string's bytes
abbrev pub bstr_key : BStrContent → Key
bstr_key content = bstr_content_bytes content ∷ []

-- a C string's bytes without the zero
abbrev pub c_str_key : CStrContent → Key
c_str_key content = c_str_content_bytes content ∷ []

-- a path's components
abbrev pub path_key : PathContent → Key
path_key content = components (path_content_bytes content)
