-- What a dictionary is.
use Rattle.std.specs.Prelude.{◌≡◌, ℕ, ◌+◌, ◌%◌, ◌^◌, cond, Bool, List, [], ◌∷◌, ◌++◌, length}
use Rattle.std.specs.List.{concat}
use Rattle.std.specs.Int.{w32, to_le_bytes}
use Rattle.std.specs.Hash.DefaultHasher.{with_keys, write, finish}
use Rattle.intaglio_frozen.specs.declared.id.DictionaryId.{DictionaryId}

-- the number of a kind: strings of any bytes are 0, texts are 1
abbrev pub kind_number : Bool → ℕ
kind_number is_text = cond is_text 1 0

-- the hash of strings under the number of their kind and another key: of their ends, and then their text
abbrev pub hash_of : Bool → List ℕ → List ℕ → ℕ → ℕ
hash_of is_text ends text key1 = finish (write (write (with_keys (kind_number is_text) key1) ends) text)

-- this is what a dictionary of so many strings is
pub record IsIdOf (is_text : Bool) (many : ℕ) (ends text : List ℕ) (id : DictionaryId) : Type 0 where
  pub kind : id.is_text ≡ is_text
  pub count : id.count ≡ many
  pub hash0 : id.hash0 ≡ hash_of is_text ends text 0
  pub hash1 : id.hash1 ≡ hash_of is_text ends text 1

-- the end of a string behind the end of those before it: behind 2 ^ 32 bytes, ends begin again at 0
abbrev pub end_behind : ℕ → List ℕ → ℕ
end_behind at w = (at + length w) % 2 ^ 32

-- the end of each of these strings, four bytes each
abbrev pub end_bytes : ℕ → List (List ℕ) → List ℕ
end_bytes at [] = []
end_bytes at (w ∷ ws) = to_le_bytes w32 (end_behind at w) ++ end_bytes (end_behind at w) ws

-- this is what a dictionary of these strings is
abbrev pub IsIdOfStrings : Bool → List (List ℕ) → DictionaryId → Type 0
IsIdOfStrings is_text ws id = IsIdOf is_text (length ws) (end_bytes 0 ws) (concat ws) id
