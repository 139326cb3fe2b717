-- What a dictionary is, by its bytes: what its header says, and what its strings are.
use Rattle.std.specs.Prelude.{ℕ, ◌==◌, Bool, List, drop, slice_range}
use Rattle.intaglio_frozen.specs.Id.{IsIdOf}
use Rattle.intaglio_frozen.specs.declared.id.DictionaryId.{DictionaryId}
use Rattle.intaglio_frozen.specs.Layout.{kind, count, own0, own1, ends_at, pilots_at, text_at}

-- whether the number of a kind is that of texts
abbrev pub is_text_number : ℕ → Bool
is_text_number n = n == 1

-- the ends of the strings of a frozen table, four bytes each, and its text
abbrev pub ends_section : List ℕ → List ℕ
ends_section bs = slice_range bs (ends_at bs) (pilots_at bs)

abbrev pub text_section : List ℕ → List ℕ
text_section bs = drop (text_at bs) bs

-- this is what a frozen table is
abbrev pub IsIdOfTable : List ℕ → DictionaryId → Type 0
IsIdOfTable bs id = IsIdOf (is_text_number (kind bs)) (count bs) (ends_section bs) (text_section bs) id

-- what the header says that it is
abbrev pub id_in : List ℕ → DictionaryId
id_in bs = record {
  is_text = is_text_number (kind bs);
  count = count bs;
  hash0 = own0 bs;
  hash1 = own1 bs;
}

-- that is what it is
pub record HasId (bs : List ℕ) : Type 0 where
  pub id : IsIdOfTable bs (id_in bs)
