-- How C sees a table: its kind, its contents as their bytes, and its keys; what each kind makes of bytes; and
-- what each call does to the state.
use Rattle.std.specs.Prelude.{◌≡◌, ◌-◌, ◌==◌, if◌then◌else◌, ◌∷◌, ◌⊎◌, ◌<◌, ◌^◌, ◌+◌}
use Rattle.intaglio_c.specs.Words.{ℕ, Bool, true, false, List, [], length, Option, Some, None, initial_hasher, KeyedState, TableKind, Rule, Refusal, NotUtf8, InnerZero, MissingZero, is_utf8, write, finish, Key, key_hash, first_zero, components, Owned, Path, Packed, map, Result, Ok, Err, State, empty_state, first, bytes_content_bytes, path_content_bytes, Size, Capacity, Limit, AnyTable, IsAppended, IsOutOfMemory, IsReserved, IsShrunk, IsTruncated, IsUnreserved, Full, NoMemory, TooLarge, Stale}
use Rattle.intaglio_c.specs.declared.kind.Rule.TheVariants as rule
use Rattle.intaglio_c.specs.declared.kind.TableKind.TheVariants as kind
use Rattle.intaglio_c.specs.declared.any_table.AnyTable.TheVariants as any_table

-- the kind with a number: of texts, bytes, C strings, paths, OS strings, byte
-- strings, packed texts and packed bytes
abbrev pub kind_of : ℕ → Option TableKind
kind_of n = if n == 0 then Some (Owned rule.Text) else if n == 1 then Some (Owned rule.Bytes)
    else if n == 2 then Some (Owned rule.CStr)
    else if n == 3 then Some Path
    else if n == 4 then Some (Owned rule.Text)
    else if n == 5 then Some (Owned rule.Bytes)
    else if n == 6 then Some (Packed rule.Text)
    else if n == 7 then Some (Packed rule.Bytes)
    else None

-- what the strings of a kind are
abbrev pub rule_of : TableKind → Rule
rule_of (Owned r) = r
rule_of Path = rule.Text
rule_of (Packed r) = r

-- what bytes are compared by. Of a C string that is all bytes, which finds what those before the zero would
abbrev pub key : TableKind → List ℕ → Key
key Path bytes = components bytes
key _ bytes = bytes ∷ []

-- whether a kind copies static bytes
abbrev pub copies_static : TableKind → Bool
copies_static (Packed r) = true
copies_static _ = false

-- why bytes aren't a text, if they aren't
abbrev pub utf8_fault : List ℕ → Option Refusal
utf8_fault bytes = if is_utf8 bytes then None else Some NotUtf8

-- why bytes of this length, whose first zero is at this position, aren't a C string, if they aren't
abbrev pub zero_fault_at : ℕ → Option ℕ → Option Refusal
zero_fault_at size None = Some MissingZero
zero_fault_at size (Some place) = if place == size - 1 then None else Some InnerZero

-- why bytes aren't what a rule wants, if they aren't
abbrev pub broken : Rule → List ℕ → Option Refusal
broken rule.Bytes bytes = None
broken rule.Text bytes = utf8_fault bytes
broken rule.CStr bytes = zero_fault_at (length bytes) (first_zero bytes)

-- why bytes aren't a string of a kind, if they aren't
abbrev pub fault : TableKind → List ℕ → Option Refusal
fault kind bytes = broken (rule_of kind) bytes

-- the first of two faults, if there is one
abbrev pub earlier : Option Refusal → Option Refusal → Option Refusal
earlier None later = later
earlier (Some refusal) later = Some refusal

-- the fault of the first bytes that aren't a string of a kind, if there are such
abbrev pub first_fault : TableKind → List (List ℕ) → Option Refusal
first_fault kind [] = None
first_fault kind (string ∷ strings) = earlier (fault kind string) (first_fault kind strings)

-- bytes have a key of a kind: only a text has the components of a path
abbrev pub HasKey : TableKind → List ℕ → Type 0
HasKey Path bytes = utf8_fault bytes ≡ None
HasKey _ bytes = Unit {0}

-- the hash of a key under a table's keys
abbrev pub keyed_hash : KeyedState → Key → ℕ
keyed_hash keys k = key_hash finish write (initial_hasher keys) k

-- the hash of the key of these bytes, or any number if they have none
abbrev pub IsHash : TableKind → KeyedState → List ℕ → ℕ → Type 0
IsHash kind keys bytes n = HasKey kind bytes → n ≡ keyed_hash keys (key kind bytes)

-- a table as C sees it
pub record Seen : Type 0 where
  pub kind : TableKind
  pub state : State (List ℕ)
  pub hasher : KeyedState

-- a state with contents as their bytes
abbrev pub as_bytes : {C : Type 0} → (C → List ℕ) → State C → State (List ℕ)
as_bytes bytes s =
    record { contents = map bytes s.contents; spare = s.spare; buckets = s.buckets; limit = s.limit }

-- a state of a table of this kind, by the bytes of its contents
abbrev pub seen_of : {C : Type 0} → TableKind → (C → List ℕ) → State C → KeyedState → Seen
seen_of k bytes s hasher = record { kind = k; state = as_bytes bytes s; hasher = hasher }

-- a packed table's contents are their bytes
abbrev pub packed_bytes : List ℕ → List ℕ
packed_bytes bytes = bytes

abbrev pub seen : AnyTable → Seen
seen (any_table.Owned rule t) = seen_of (kind.Owned rule) bytes_content_bytes t.state t.hasher
seen (any_table.Path t) = seen_of kind.Path path_content_bytes t.state t.hasher
seen (any_table.Packed rule t) = seen_of (kind.Packed rule) packed_bytes t.state t.hasher

-- the symbol of the content that is equal to the one with these bytes, if one is stored
abbrev pub position : Seen → List ℕ → Option ℕ
position t bytes = first (key t.kind) t.state.contents (key t.kind bytes)

-- the contents of a table, as their bytes
abbrev pub contents_of : AnyTable → List (List ℕ)
contents_of table = (seen table).state.contents

-- the first fault of the contents of a table that is held, if there is one
abbrev pub fault_in : Option AnyTable → Option Refusal
fault_in None = None
fault_in (Some table) = first_fault (seen table).kind (contents_of table)

-- all contents are strings of the table's kind
abbrev pub IsFaultless : Seen → Type 0
IsFaultless t = first_fault t.kind t.state.contents ≡ None

-- a new table, whose capacity is that of its buckets
abbrev pub new_table : TableKind → ℕ → ℕ → KeyedState → Seen
new_table which room most keys = record { kind = which; state = empty_state room most; hasher = keys }

-- the capacity of a new table of this size
abbrev pub room_of : Size → ℕ
room_of (Capacity capacity) = capacity
room_of (Limit _) = 0

-- the most contents that it can hold
abbrev pub most_of : Size → ℕ
most_of (Capacity _) = 2 ^ 32
most_of (Limit limit) = limit

-- there is no such table
abbrev pub IsOutside : Size → Type 0
IsOutside (Capacity capacity) = 2 ^ 32 < capacity
IsOutside (Limit limit) = (limit ≡ 0) ⊎ (2 ^ 32 < limit)

-- a result, unless there is a fault
abbrev pub unless : {X : Type 0} → Option Refusal → X → Result X Refusal
unless None x = Ok x
unless (Some refusal) x = Err refusal

-- a look-up
abbrev pub look_up : Seen → List ℕ → Result (Option ℕ) Refusal
look_up t bytes = unless (fault t.kind bytes) (position t bytes)

-- a change of the state alone
pub record IsChangedBy (old new : Seen) (Step : State (List ℕ) → State (List ℕ) → Type 0) : Type 0 where
  pub kind : new.kind ≡ old.kind
  pub hasher : new.hasher ≡ old.hasher
  pub step : Step old.state new.state

abbrev pub IsChanged : AnyTable → AnyTable → (State (List ℕ) → State (List ℕ) → Type 0) → Type 0
IsChanged old new step = IsChangedBy (seen old) (seen new) step

-- a call takes a step, by its result
abbrev pub TakesStep : {X : Type 0} → AnyTable → AnyTable → Result X Refusal →
    (Seen → Result X Refusal → State (List ℕ) → Type 0) → Type 0
TakesStep old new result Step = IsChanged old new (λ _ s'. Step (seen old) result s')

-- bytes that aren't stored are interned, and copied or not
abbrev pub InternsNew : Bool → List ℕ → State (List ℕ) → Result ℕ Refusal → State (List ℕ) → Type 0
InternsNew copies bytes s (Ok symbol) s' = IsAppended s bytes symbol s'
InternsNew copies bytes s (Err Full) s' = (length s.contents ≡ s.limit) × (s' ≡ s)
InternsNew copies bytes s (Err NoMemory) s' = IsOutOfMemory copies s s'
InternsNew copies bytes s (Err _) s' = ⊥

-- bytes are interned, given the result of looking them up
abbrev pub InternsBy : Bool → List ℕ → State (List ℕ) → Result (Option ℕ) Refusal → Result ℕ Refusal →
    State (List ℕ) → Type 0
InternsBy copies bytes s (Err refusal) result s' = (result ≡ Err refusal) × (s' ≡ s)
InternsBy copies bytes s (Ok (Some symbol)) result s' = (result ≡ Ok symbol) × (s' ≡ s)
InternsBy copies bytes s (Ok None) result s' = InternsNew copies bytes s result s'

-- bytes are interned, and copied if they are new
abbrev pub Interns : List ℕ → Seen → Result ℕ Refusal → State (List ℕ) → Type 0
Interns bytes t result s' = InternsBy true bytes t.state (look_up t bytes) result s'

-- bytes are interned, without a copy unless the table is packed
abbrev pub InternsStatic : List ℕ → Seen → Result ℕ Refusal → State (List ℕ) → Type 0
InternsStatic bytes t result s' = InternsBy (copies_static t.kind) bytes t.state (look_up t bytes) result s'

-- a reservation for n more, by its result
abbrev pub Reserves : ℕ → Seen → Result (Unit {0}) Refusal → State (List ℕ) → Type 0
Reserves n t (Ok _) s' = IsReserved t.state n s'
Reserves n t (Err TooLarge) s' = (t.state.limit < length t.state.contents + n) × (s' ≡ t.state)
Reserves n t (Err NoMemory) s' = IsUnreserved t.state n s'
Reserves n t (Err _) s' = ⊥

-- a shrink to n, by its result
abbrev pub Shrinks : ℕ → Seen → Result (Unit {0}) Refusal → State (List ℕ) → Type 0
Shrinks n t (Ok _) s' = IsShrunk t.state n s'
Shrinks n t (Err NoMemory) s' = (n < length t.state.contents + t.state.spare) × (s' ≡ t.state)
Shrinks n t (Err _) s' = ⊥

-- a rollback to a mark of n, by its result
abbrev pub TakesBack : ℕ → Seen → Result (Unit {0}) Refusal → State (List ℕ) → Type 0
TakesBack n t (Ok _) s' = IsTruncated t.state n s'
TakesBack n t (Err Stale) s' = (length t.state.contents < n) × (s' ≡ t.state)
TakesBack n t (Err _) s' = ⊥
