-- What C sees of a frozen table, which is its bytes, and of the dictionaries that files name.
use Rattle.std.specs.Prelude.{◌≡◌, ◌⊎◌, ◌≤◌, ◌∷◌, ◌==◌}
use Rattle.intaglio_c.specs.Words.{ℕ, List, [], length, slice_get, Option, Some, None, MatchOption, MatchResult, IsErrAnd, Result, Ok, Err, State, first, Rule, Refusal, NoTable, NoMemory, NotUtf8, BadEnds, NoKind, NotFrozen, OtherVersion, Reserved, TooMany, Truncated, TextEnds, Unused, NotFound, TooLong, Equal, NoPlaces, TrailingBytes, BadShard, OtherIdentity, HasKeys, IsTableOf, HasSections, IsBlock, IsFrozen, AreSectionsOf, IsAt, FreezeError, FrozenError, FrozenKind, Sections, Place, Describes, HasRows, rows, shards_of, source_of, IsIdOfStrings, is_text_number, HasHeader, number_of, kind, set0, set1, shard, DictionaryId, SetId, Reference}
use Rattle.intaglio_frozen.specs.Fault.{IsFault}
use Rattle.intaglio_frozen.specs.Freezing.{IsRefusal}
use Rattle.intaglio_frozen.specs.Layout.{strings, count, shards}
use Rattle.intaglio_frozen.specs.declared.error.FreezeError.TheVariants as error
use Rattle.intaglio_frozen.specs.declared.error.FrozenError.TheVariants as fault
use Rattle.intaglio_frozen.specs.declared.kind.FrozenKind.TheVariants as frozen
use Rattle.intaglio_c.specs.Batches.{Either, FindsBy, InternsOr, IsRolledBack, or_absent}
use Rattle.intaglio_c.specs.Handles.{Handle, GivesMade, table_of}
use Rattle.intaglio_c.specs.Seen.{rule_of, Seen}
use Rattle.intaglio_c.specs.declared.kind.Rule.TheVariants as rule
use Rattle.intaglio_c.specs.Columns.{IsNoColumn}

-- the error for C of what is wrong with bytes
abbrev pub frozen_refusal : FrozenError → Refusal
frozen_refusal fault.Magic = NotFrozen
frozen_refusal fault.OldVersion = OtherVersion
frozen_refusal fault.Version = OtherVersion
frozen_refusal fault.Kind = NoKind
frozen_refusal fault.Reserved = Reserved
frozen_refusal fault.TooMany = TooMany
frozen_refusal fault.Shard = BadShard
frozen_refusal fault.OtherIdentity = OtherIdentity
frozen_refusal fault.Truncated = Truncated
frozen_refusal fault.TooLong = TrailingBytes
frozen_refusal fault.Ends = TextEnds
frozen_refusal fault.Unused = Unused
frozen_refusal (fault.NotFound _) = NotFound
frozen_refusal (fault.NotUtf8 _) = NotUtf8

-- the bytes have a fault, of which this is the error
abbrev pub IsRefused : List ℕ → Refusal → Type 0
IsRefused bs refusal = (fault : FrozenError) × (refusal ≡ frozen_refusal fault) × IsFault bs fault

-- bytes are checked: they are a frozen table, or what is wrong with them is returned
abbrev pub Checks : List ℕ → Result (Unit {0}) Refusal → Type 0
Checks bs result = MatchResult result (λ _. IsFrozen bs) (IsRefused bs)

-- the sections of bytes are read; or what is wrong with the bytes is returned, and nothing is written
abbrev pub ReadsSections : List ℕ → Sections → Sections → Result (Unit {0}) Refusal → Type 0
ReadsSections bs old new (Ok _) = AreSectionsOf bs new
ReadsSections bs old new (Err refusal) = (¬ HasSections bs) × IsRefused bs refusal × (new ≡ old)

-- the first position of a string
abbrev pub position_in : List (List ℕ) → List ℕ → Option ℕ
position_in list w = first (λ s. s ∷ []) list (w ∷ [])

-- what may be written for a string that is looked up in bytes: that it isn't found, or a symbol that has it;
-- and what is, if they are a frozen table
pub record MayBeIn (bs w : List ℕ) (n : ℕ) : Type 0 where
  pub equal : (n ≡ or_absent None) ⊎ (slice_get (strings bs) n ≡ Some w)
  pub exact : IsFrozen bs → n ≡ or_absent (position_in (strings bs) w)

-- a batch is looked up in bytes with the sections of a frozen table, and otherwise nothing is written
abbrev pub FindsEachTrusted : List ℕ → List ℕ → List ℕ → List ℕ → List ℕ → Result (Unit {0}) Refusal → Type 0
FindsEachTrusted bs batch ends places symbols result =
    (HasSections bs × FindsBy (MayBeIn bs) batch ends places symbols result)
    ⊎ ((¬ HasSections bs) × IsErrAnd result (IsRefused bs) × (symbols ≡ places))

-- all strings of a frozen table are interned, all or none, as are those of any bytes with its header whose
-- strings fill their text; other bytes are refused
abbrev pub Absorbs : List ℕ → List ℕ → List ℕ → Seen → Result (Unit {0}) Refusal → State (List ℕ) → Type 0
Absorbs bs places symbols t result s' = (IsBlock bs × Either (length places == length (strings bs))
    (InternsOr IsRolledBack (strings bs) symbols t result s') ((result ≡ Err BadEnds) × (s' ≡ t.state)))
    ⊎ ((¬ IsBlock bs) × IsErrAnd result (IsRefused bs) × (s' ≡ t.state))

-- the error for C of an error of freezing
abbrev pub freeze_refusal : FreezeError → Refusal
freeze_refusal error.TooMany = TooMany
freeze_refusal error.TooLong = TooLong
freeze_refusal (error.Equal _ _) = Equal
freeze_refusal (error.NotUtf8 _) = NotUtf8
freeze_refusal error.NoPlaces = NoPlaces
freeze_refusal error.Memory = NoMemory

-- what strings of a rule are in a frozen table
abbrev pub frozen_kind : Rule → FrozenKind
frozen_kind rule.Text = frozen.Text
frozen_kind _ = frozen.Bytes

-- bytes are a frozen table of the strings of a table, as C sees them, each at its symbol,
-- at this place, under these keys or the next ones
pub record IsFrozenOf (t : Seen) (keys : ℕ × ℕ) (place : Place) (bs : List ℕ) : Type 0 where
  pub table : IsTableOf (frozen_kind (rule_of t.kind)) t.state.contents bs
  pub placed : IsAt place bs
  pub keyed : HasKeys keys.0 keys.1 bs

-- the table that a handle holds is frozen under keys at a place, or there is an error that says why it isn't
abbrev pub FreezesHeld : Handle → ℕ × ℕ → Place → List ℕ → List ℕ → ℕ → ℕ → Result (Unit {0}) Refusal → Type 0
FreezesHeld handle keys place buffer buffer' len len' result =
    MatchOption (table_of handle) ((result ≡ Err NoTable) × (buffer' ≡ buffer) × (len' ≡ len)) (λ t.
    GivesMade (IsFrozenOf t keys place) (λ refusal. ((refusal ≡ BadShard) × (place.shards ≤ place.shard))
    ⊎ ((error : FreezeError) × (refusal ≡ freeze_refusal error)
    × IsRefusal (frozen_kind (rule_of t.kind)) t.state.contents error)) buffer buffer' len len' result)

-- what a frozen table says is written: which shard of which set it is, and how many strings it has; or what is
-- wrong with the header is returned, and nothing is written
abbrev pub ReadsReference : List ℕ → Reference → Reference → Result (Unit {0}) Refusal → Type 0
ReadsReference bs old new (Ok _) = HasHeader bs × (new ≡ record {
  id = record { is_text = is_text_number (kind bs); count = count bs; hash0 = set0 bs; hash1 = set1 bs };
  shards = shards bs;
  shard = shard bs;
})
ReadsReference bs old new (Err refusal) = (¬ HasHeader bs) × IsRefused bs refusal × (new ≡ old)

-- what a column says of the dictionary to which its codes lead is written: in the map of a shard, it is the
-- shard with the same number. Or what is wrong with the bytes is returned, and nothing is written
abbrev pub ReadsTarget : List ℕ → Reference → Reference → Result (Unit {0}) Refusal → Type 0
ReadsTarget bs old new (Ok _) = HasRows bs × Describes bs new.id × (new.shards ≡ shards_of bs)
    × (new.shard ≡ (source_of bs).shard)
ReadsTarget bs old new (Err refusal) = (¬ HasRows bs) × IsNoColumn bs refusal × (new ≡ old)

-- the same of the dictionary, or the shard, whose strings are its rows: no shards if they are lines
abbrev pub ReadsSource : List ℕ → Reference → Reference → Result (Unit {0}) Refusal → Type 0
ReadsSource bs old new (Ok _) = HasRows bs × (new ≡ record {
  id = record {
    is_text = (source_of bs).is_text;
    count = rows bs;
    hash0 = (source_of bs).hash0;
    hash1 = (source_of bs).hash1;
  };
  shards = (source_of bs).shards;
  shard = (source_of bs).shard;
})
ReadsSource bs old new (Err refusal) = (¬ HasRows bs) × IsNoColumn bs refusal × (new ≡ old)

-- the set of a dictionary
abbrev pub set_in : Reference → SetId
set_in r = record { hash0 = r.id.hash0; hash1 = r.id.hash1 }

-- the place of a shard
abbrev pub place_in : Reference → Place
place_in r = record { set = set_in r; shards = r.shards; shard = r.shard }

-- what the strings of a single table are
abbrev pub own_id : Reference → DictionaryId
own_id r = r.id

-- the hashes of a set that was made are written; or there is no memory, and nothing is
abbrev pub MakesSet : SetId → ℕ × ℕ → ℕ × ℕ → Result (Unit {0}) Refusal → Type 0
MakesSet made old new (Ok _) = (new.0 ≡ made.hash0) × (new.1 ≡ made.hash1)
MakesSet made old new (Err refusal) = (refusal ≡ NoMemory) × (new.0 ≡ old.0) × (new.1 ≡ old.1)

-- the place of a table in a file of its own
abbrev pub single : Place
single = record { set = record { hash0 = 0; hash1 = 0 }; shards = 1; shard = 0 }

-- what the dictionary of a table's strings in one file is, of the table that a handle holds
abbrev pub IdentifiesHeld : Handle → Reference → Reference → Result (Unit {0}) Refusal → Type 0
IdentifiesHeld handle old new result = MatchOption (table_of handle) ((result ≡ Err NoTable) × (new ≡ old))
    (λ t. (result ≡ Ok tt) × (new.shards ≡ 1) × (new.shard ≡ 0)
    × IsIdOfStrings (is_text_number (number_of (frozen_kind (rule_of t.kind)))) t.state.contents new.id)
