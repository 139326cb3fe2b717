-- What a code says, what C sees of a handle, and what calls do to it.
use Rattle.std.specs.Prelude.{◌≡◌, ◌⊎◌, ◌<◌, ◌≤◌, ◌++◌, if◌then◌else◌}
use Rattle.intaglio_c.specs.Words.{ℕ, Option, Some, None, Result, Ok, Err, Refusal, NoTable, Full, NoMemory, TooLarge, Stale, NotUtf8, InnerZero, MissingZero, BadEnds, NoSymbol, NoSpace, NoKind, NotFrozen, OtherVersion, Reserved, TooMany, Truncated, TextEnds, Unused, NotFound, TooLong, Equal, NoPlaces, NotColumn, BadWidth, TrailingBytes, BadShard, OtherIdentity, Damaged, InternError, Overflow, Memory, RoomError, IsErrAnd, List, length, drop, slice_get, nat_lt, option_map, option_and_then, MatchOption, IsSomeAnd, Empties, State, empty_state, initial_hasher, TableKind, DefaultHasher, Size}
use Rattle.intaglio_symbol.specs.declared.error.RoomError.TheVariants as room_error
use Rattle.intaglio_c.specs.Seen.{IsOutside, Seen, most_of, room_of, seen, IsChangedBy, look_up}
pub use Rattle.intaglio_c.specs.declared.handle.Handle.{Handle}

-- the code of an error
abbrev pub refusal_code : Refusal → ℕ
refusal_code NoTable = 1
refusal_code Full = 2
refusal_code NoMemory = 3
refusal_code TooLarge = 4
refusal_code Stale = 5
refusal_code NotUtf8 = 6
refusal_code InnerZero = 7
refusal_code MissingZero = 8
refusal_code BadEnds = 9
refusal_code NoSymbol = 10
refusal_code NoSpace = 11
refusal_code NoKind = 12
refusal_code NotFrozen = 13
refusal_code OtherVersion = 14
refusal_code Reserved = 15
refusal_code TooMany = 16
refusal_code Truncated = 17
refusal_code TextEnds = 18
refusal_code Unused = 19
refusal_code NotFound = 20
refusal_code TooLong = 21
refusal_code Equal = 22
refusal_code NoPlaces = 23
refusal_code NotColumn = 24
refusal_code BadWidth = 25
refusal_code TrailingBytes = 26
refusal_code BadShard = 27
refusal_code OtherIdentity = 28
refusal_code Damaged = 29

module _ {X : Type 0} where
  -- the code of a result: 0 if the call succeeded
  abbrev pub answer_code : Result X Refusal → ℕ
  answer_code (Ok _) = 0
  answer_code (Err refusal) = refusal_code refusal

  -- the code is that of a result of which P holds
  abbrev pub IsCodeOf : ℕ → (Result X Refusal → Type 0) → Type 0
  IsCodeOf code P = (answer : Result X Refusal) × (code ≡ answer_code answer) × P answer

-- a symbol that is returned is written; otherwise what was there stays
abbrev pub IsWritten : Result ℕ Refusal → ℕ → ℕ → Type 0
IsWritten (Ok symbol) before after = after ≡ symbol
IsWritten (Err _) before after = after ≡ before

-- the error for C of an error of a constructor, a reservation or a shrink
abbrev pub room_refusal : RoomError → Refusal
room_refusal room_error.CapacityOverflow = TooLarge
room_refusal (room_error.Memory _) = NoMemory

-- the result for C of an interning
abbrev pub symbol_answer : Result ℕ InternError → Result ℕ Refusal
symbol_answer (Ok symbol) = Ok symbol
symbol_answer (Err (Overflow _)) = Err Full
symbol_answer (Err (Memory _)) = Err NoMemory

-- the table that a handle holds, if it holds one
abbrev pub table_of : Handle → Option Seen
table_of handle = option_map seen handle.ptr.table

-- nothing changed
abbrev pub Keeps : Handle → Handle → Type 0
Keeps old new = new.ptr.table ≡ old.ptr.table

-- there is no table
abbrev pub HoldsNone : Handle → Type 0
HoldsNone handle = handle.ptr.table ≡ None

-- a call may change the state of the table; without a table it returns `NoTable`
abbrev pub Changes : {X : Type 0} → Handle → Handle → Result X Refusal →
    (Seen → Result X Refusal → State (List ℕ) → Type 0) → Type 0
Changes old new result Step = MatchOption (table_of old) ((result ≡ Err NoTable) × HoldsNone new) (λ before.
    IsSomeAnd (table_of new) (λ after. IsChangedBy before after (λ _ s'. Step before result s')))

-- the same from C, which gets the code of the result
abbrev pub ChangesWithCode : Handle → Handle → ℕ →
    (Seen → Result (Unit {0}) Refusal → State (List ℕ) → Type 0) → Type 0
ChangesWithCode old new code Step = IsCodeOf code (λ answer. Changes old new answer Step)

-- and the symbol, which is written over another number
abbrev pub ChangesWithSymbol : Handle → Handle → ℕ → ℕ → ℕ →
    (Seen → Result ℕ Refusal → State (List ℕ) → Type 0) → Type 0
ChangesWithSymbol old new code before after Step = (answer : Result ℕ Refusal) × (code ≡ answer_code answer)
    × IsWritten answer before after × Changes old new answer Step

-- the table, if there is one, is cleared
abbrev pub Clears : Handle → Handle → Type 0
Clears old new = MatchOption (table_of old) (HoldsNone new) (λ before.
    IsSomeAnd (table_of new) (λ after. IsChangedBy before after Empties))

-- a new table of a kind and a size, whose builder makes this hasher
pub record IsNew (which : TableKind) (size : Size) (made : DefaultHasher) (t : Seen) : Type 0 where
  pub kind : t.kind ≡ which
  pub state : t.state ≡ empty_state (room_of size) (most_of size)
  pub hasher : initial_hasher t.hasher ≡ made

-- a new table of a kind and a size replaces what was held, unless the number is no kind's, the size is too
-- large, or it is out of memory
abbrev pub Makes : Option TableKind → Size → DefaultHasher → Handle → Result (Unit {0}) Refusal → Type 0
Makes None size made new result = (result ≡ Err NoKind) × HoldsNone new
Makes (Some kind) size made new (Ok _) = ¬ IsOutside size × IsSomeAnd (table_of new) (IsNew kind size made)
Makes (Some kind) size made new (Err TooLarge) = IsOutside size × HoldsNone new
Makes (Some kind) size made new (Err NoMemory) = ¬ IsOutside size × HoldsNone new
Makes (Some kind) size made new (Err _) = ⊥

-- what a look-up found
abbrev pub found : Result (Option ℕ) Refusal → Option ℕ
found (Ok symbol) = symbol
found (Err _) = None

-- the symbol of bytes that are in a table
abbrev pub known : Handle → List ℕ → Option ℕ
known handle bytes = option_and_then (λ t. found (look_up t bytes)) (table_of handle)

-- the bytes of a symbol
abbrev pub stored : Handle → ℕ → Option (List ℕ)
stored handle symbol = option_and_then (λ t. slice_get t.state.contents symbol) (table_of handle)

-- a buffer, with bytes at its start if it has space for them
abbrev pub filled : List ℕ → Option (List ℕ) → List ℕ
filled buffer None = buffer
filled buffer (Some bytes) =
    if nat_lt (length buffer) (length bytes) then buffer else bytes ++ drop (length bytes) buffer

-- the number of these bytes is written, and they are copied to the start of a buffer; or it is too short
abbrev pub Gives : List ℕ → List ℕ → List ℕ → ℕ → Result (Unit {0}) Refusal → Type 0
Gives bs old new size (Ok _) = (size ≡ length bs) × (new ≡ filled old (Some bs)) × (length bs ≤ length old)
Gives bs old new size (Err NoSpace) =
    (size ≡ length bs) × (new ≡ filled old (Some bs)) × (length old < length bs)
Gives bs old new size (Err _) = ⊥

-- bytes of which Made holds are given; or there is a reason why there are none, and nothing is written
abbrev pub GivesMade : (List ℕ → Type 0) → (Refusal → Type 0) → List ℕ → List ℕ → ℕ → ℕ →
    Result (Unit {0}) Refusal → Type 0
GivesMade Made Why old new size size' result = ((bs : List ℕ) × Made bs × Gives bs old new size' result)
    ⊎ (IsErrAnd result Why × (new ≡ old) × (size' ≡ size))
