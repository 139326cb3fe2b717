-- What names are compared and hashed by.
use Rattle.std.specs.Prelude.{ℕ, List, [], ◌∷◌, map}
use Rattle.std.specs.Str.{str_to_ascii_lowercase}
use Rattle.example_names.specs.declared.name.Name.{Name}

-- the letters of a name in lower case, each an item
abbrev pub letters : List ℕ → List (List ℕ)
letters bytes = map (λ b. b ∷ []) (str_to_ascii_lowercase bytes)

-- the text of a name
abbrev pub name_text : Name → List ℕ
name_text name = name.text.now
