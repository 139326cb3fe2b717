-- What the lines of each kind may be, and what its contents are compared by.
use Rattle.std.specs.Prelude.{ℕ, List, [], ◌∷◌, Bool, true, Option, Some, None, if◌then◌else◌, is_none, codes}
use Rattle.std.specs.Str.{IsUtf8, bytes_eq}
use Rattle.intaglio_content.specs.Key.{Key}
use Rattle.intaglio_cstr.specs.Zeros.{first_zero}
use Rattle.intaglio_path.specs.Components.{components}
use Rattle.intaglio_lines.specs.declared.kind.Kind.{Kind}
use Rattle.intaglio_lines.specs.declared.kind.Kind.TheVariants.{Text, Bytes, BStr, CStr, OsStr, Path}

-- the kind with this name
abbrev pub kind_of_word : List ℕ → Option Kind
kind_of_word word =
    if bytes_eq word (codes "text") then Some Text
    else if bytes_eq word (codes "bytes") then Some Bytes
    else if bytes_eq word (codes "bstr") then Some BStr
    else if bytes_eq word (codes "cstr") then Some CStr
    else if bytes_eq word (codes "osstr") then Some OsStr
    else if bytes_eq word (codes "path") then Some Path
    else None

-- the kind that the arguments name: there is one argument, the kind's name
abbrev pub kind_of_words : List (List ℕ) → Option Kind
kind_of_words (word ∷ []) = kind_of_word word
kind_of_words _ = None

-- an input can be split into lines of a kind: it is UTF-8 if the kind requires that
abbrev pub Allows : Kind → List ℕ → Type 0
Allows Text input = IsUtf8 input
Allows Bytes input = Unit {0}
Allows BStr input = Unit {0}
Allows CStr input = Unit {0}
Allows OsStr input = IsUtf8 input
Allows Path input = IsUtf8 input

-- whether a line can be a content of a kind: a C string has no zero
abbrev pub is_fit : Kind → List ℕ → Bool
is_fit Text line = true
is_fit Bytes line = true
is_fit BStr line = true
is_fit CStr line = is_none (first_zero line)
is_fit OsStr line = true
is_fit Path line = true

-- the key of a content of a kind, by its spelling
abbrev pub key_of : Kind → List ℕ → Key
key_of Text spelling = spelling ∷ []
key_of Bytes spelling = spelling ∷ []
key_of BStr spelling = spelling ∷ []
key_of CStr spelling = spelling ∷ []
key_of OsStr spelling = spelling ∷ []
key_of Path spelling = components spelling
