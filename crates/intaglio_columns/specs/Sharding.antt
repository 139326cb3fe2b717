-- A list of strings in shards.
use Rattle.std.specs.Prelude.{◌≡◌, ℕ, ◌<◌, ◌≤◌, true, Bool, List, [], length, map, get_or, Some}
use Rattle.std.specs.List.{concat}
use Rattle.intaglio_frozen.specs.Id.{end_bytes, hash_of}
use Rattle.intaglio_frozen.specs.Identity.{is_text_number}
use Rattle.intaglio_frozen.specs.IsFrozen.{number_of}
use Rattle.intaglio_frozen.specs.SetId.{set_of_shards}
use Rattle.intaglio_frozen.specs.declared.error.FreezeError.TheVariants.{TooMany}
use Rattle.intaglio_frozen.specs.declared.id.DictionaryId.{DictionaryId}
use Rattle.intaglio_frozen.specs.declared.kind.FrozenKind.{FrozenKind}
use Rattle.intaglio_frozen.specs.declared.set_id.Place.{Place}
use Rattle.intaglio_frozen.specs.declared.set_id.SetId.{SetId}
use Rattle.intaglio_interner.specs.State.{State}
use Rattle.intaglio_lines.specs.Lines.{lines_of}
use Rattle.intaglio_lines.specs.declared.error.StreamError.TheVariants.{Memory}
use Rattle.intaglio_frozen.specs.Merging.{decode, missing, IsMap}
use Rattle.intaglio_frozen.specs.Shards.{joined, shards}
use Rattle.intaglio_columns.specs.Frozen.{distinct_lines}
use Rattle.intaglio_columns.specs.Interning.{IsInterned}
use Rattle.intaglio_columns.specs.declared.error.FreezingError.{FreezingError}
use Rattle.intaglio_columns.specs.declared.error.FreezingError.TheVariants.{NotUtf8, Table, Stream}

-- whether strings of a kind are texts
abbrev pub are_texts : FrozenKind → Bool
are_texts kind = is_text_number (number_of kind)

-- what a dictionary of these strings is
abbrev pub id_of : FrozenKind → List (List ℕ) → DictionaryId
id_of kind ws = record {
  is_text = are_texts kind;
  count = length ws;
  hash0 = hash_of (are_texts kind) (end_bytes 0 ws) (concat ws) 0;
  hash1 = hash_of (are_texts kind) (end_bytes 0 ws) (concat ws) 1;
}

-- the set of shards with these strings
abbrev pub set_of : FrozenKind → List (List (List ℕ)) → SetId
set_of kind lists = set_of_shards (map (id_of kind) lists)

-- what the dictionary of a set with so many strings is, for the header of a column
abbrev pub reference_of : FrozenKind → ℕ → SetId → DictionaryId
reference_of kind many set = record {
  is_text = are_texts kind;
  count = many;
  hash0 = set.hash0;
  hash1 = set.hash1;
}

-- the strings of the shard with a number
abbrev pub strings_in : List (List (List ℕ)) → ℕ → List (List ℕ)
strings_in lists number = get_or lists number []

-- the place of a shard in a set of so many
abbrev pub place_of : SetId → ℕ → ℕ → Place
place_of set many number = record { set = set; shards = many; shard = number }

-- the strings of a list in so many shards, the number of each string of the list among those of all shards,
-- which has at most 2^32 - 1, and the set
pub record IsShared (kind : FrozenKind) (many : ℕ) (strings : List (List ℕ)) (lists : List (List (List ℕ)))
    (numbers : List ℕ) (set : SetId) : Type 0 where
  pub few : length strings ≤ missing
  pub split : lists ≡ shards many strings
  pub map : IsMap strings (joined lists) numbers
  pub made : set ≡ set_of kind lists

-- these are the codes of the lines of an input under its distinct lines in so many shards
abbrev pub AreSharedCodes : ℕ → List ℕ → List ℕ → Type 0
AreSharedCodes many codes input =
    decode (joined (shards many (distinct_lines input))) codes ≡ map Some (lines_of input)

-- whatever input was interned, these are the codes of its lines
abbrev pub KeepsInput : ℕ → List ℕ → State (List ℕ) → List ℕ → ℕ → Type 0
KeepsInput many codes state symbols count = (kind : FrozenKind) (input : List ℕ) →
    IsInterned kind true input state symbols count → AreSharedCodes many codes input

-- when each error is returned of strings that are shared out
abbrev pub IsSharingRefusal : List (List ℕ) → FreezingError → Type 0
IsSharingRefusal strings NotUtf8 = ⊥
IsSharingRefusal strings (Table error) = (error ≡ TooMany) × (missing < length strings)
IsSharingRefusal strings (Stream failure) = failure ≡ Memory
