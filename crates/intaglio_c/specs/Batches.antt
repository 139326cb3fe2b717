-- Batches, as C passes them, many strings in one list of bytes with the end of
-- each; and what becomes of them.
use Rattle.std.specs.Prelude.{◌≡◌, ◌+◌, ◌-◌, ◌^◌, ◌<◌, ◌≤◌, ◌==◌, if◌then◌else◌, ◌∷◌, ◌++◌}
use Rattle.intaglio_c.specs.Words.{ℕ, Bool, true, false, nat_lt, List, [], length, map, take, drop, slice_get, get_or, Option, Some, None, MatchOption, Result, Ok, Err, AreFirst, State, Refusal, NoTable, BadEnds, NoSymbol, NoSpace, concat, issue_from, interned_all}
use Rattle.intaglio_interner.specs.Lookup.{FindsEach}
use Rattle.intaglio_c.specs.Handles.{Handle, found, table_of}
use Rattle.intaglio_c.specs.Seen.{first_fault, key, Seen, look_up, Interns}

-- the first if the condition is true, and otherwise the second
abbrev pub Either : Bool → Type 0 → Type 0 → Type 0
Either true Then Else = Then
Either false Then Else = Else

-- the strings of a batch, from a position in its bytes on
abbrev pub pieces : List ℕ → ℕ → List ℕ → List (List ℕ)
pieces bytes start [] = []
pieces bytes start (end ∷ ends) = take (end - start) (drop start bytes) ∷ pieces bytes end ends

-- whether the ends don't decrease, from a position on, and stay within this many bytes
abbrev pub are_ends : ℕ → ℕ → List ℕ → Bool
are_ends size start [] = true
are_ends size start (end ∷ ends) = if nat_lt end start then false else if nat_lt size end then false else
    are_ends size end ends

-- whether bytes and ends are a batch, with as many strings as there are places for symbols
abbrev pub is_batch : List ℕ → List ℕ → ℕ → Bool
is_batch bytes ends places = if places == length ends then are_ends (length bytes) 0 ends else false

-- P holds of each string and the number at its place, and there is a number for each string
abbrev pub AreAll : (List ℕ → ℕ → Type 0) → List (List ℕ) → List ℕ → Type 0
AreAll P strings ns = (length ns ≡ length strings) × AreFirst P strings ns

-- a batch is looked up: P holds of each string and the number that is written for it
abbrev pub FindsBy : (List ℕ → ℕ → Type 0) → List ℕ → List ℕ → List ℕ → List ℕ → Result (Unit {0}) Refusal
    → Type 0
FindsBy P batch ends places symbols result =
    Either (is_batch batch ends (length places)) ((result ≡ Ok tt) × AreAll P (pieces batch 0 ends) symbols)
    ((result ≡ Err BadEnds) × (symbols ≡ places))

-- all strings are interned, in order: each is found at its symbol, behind what was there
pub record AreInterned (t : Seen) (strings : List (List ℕ)) (issued : List ℕ)
    (new : State (List ℕ)) : Type 0 where
  pub faultless : first_fault t.kind strings ≡ None
  pub symbols : issued ≡ issue_from (key t.kind) t.state.contents strings
  pub contents : new.contents ≡ interned_all (key t.kind) t.state.contents strings
  pub found : FindsEach (key t.kind) new strings issued
  pub kept : take (length t.state.contents) new.contents ≡ t.state.contents
  pub capacity : length t.state.contents + t.state.spare ≤ length new.contents + new.spare
  pub limit : new.limit ≡ t.state.limit

-- the strings are as before, and the capacity isn't lower
pub record IsRolledBack (old new : State (List ℕ)) : Type 0 where
  pub contents : new.contents ≡ old.contents
  pub capacity : length old.contents + old.spare ≤ length new.contents + new.spare
  pub limit : new.limit ≡ old.limit

-- the first strings are as before, and the capacity isn't lower
pub record IsBegun (old new : State (List ℕ)) : Type 0 where
  pub within : length old.contents ≤ length new.contents
  pub contents : take (length old.contents) new.contents ≡ old.contents
  pub capacity : length old.contents + old.spare ≤ length new.contents + new.spare
  pub limit : new.limit ≡ old.limit

-- the strings before one are interned, and the call that interns this one alone then returns the error
pub record StopsAt (t : Seen) (strings : List (List ℕ)) (refusal : Refusal) : Type 0 where
  pub before : List (List ℕ)
  pub string : List ℕ
  pub behind : List (List ℕ)
  pub are : strings ≡ before ++ string ∷ behind
  pub faultless : first_fault t.kind before ≡ None
  pub reached : State (List ℕ)
  pub contents : reached.contents ≡ interned_all (key t.kind) t.state.contents before
  pub limit : reached.limit ≡ t.state.limit
  pub left : State (List ℕ)
  pub alone : Interns string (record { kind = t.kind; state = reached; hasher = t.hasher }) (Err refusal) left

-- all strings are interned, or Left holds after the error of the first one that can't be
abbrev pub InternsOr : (State (List ℕ) → State (List ℕ) → Type 0) → List (List ℕ) → List ℕ → Seen →
    Result (Unit {0}) Refusal → State (List ℕ) → Type 0
InternsOr Left strings symbols t (Ok _) s' = AreInterned t strings symbols s'
InternsOr Left strings symbols t (Err refusal) s' = StopsAt t strings refusal × Left t.state s'

-- a batch is interned, all or none
abbrev pub InternsAll : List ℕ → List ℕ → List ℕ → List ℕ → Seen → Result (Unit {0}) Refusal →
    State (List ℕ) → Type 0
InternsAll bytes ends places symbols t result s' = Either (is_batch bytes ends (length places))
    (InternsOr IsRolledBack (pieces bytes 0 ends) symbols t result s') ((result ≡ Err BadEnds)
    × (s' ≡ t.state))

-- what is written for a string: its symbol, or 2^64 - 1, which is no symbol's number
abbrev pub or_absent : Option ℕ → ℕ
or_absent None = 2 ^ 64 - 1
or_absent (Some symbol) = symbol

abbrev pub IsNumberIn : Seen → List ℕ → ℕ → Type 0
IsNumberIn t string n = n ≡ or_absent (found (look_up t string))

-- a batch is looked up
abbrev pub FindsAll : List ℕ → List ℕ → List ℕ → List ℕ → Handle → Result (Unit {0}) Refusal → Type 0
FindsAll bytes ends places symbols handle result =
    MatchOption (table_of handle) ((result ≡ Err NoTable) × (symbols ≡ places))
    (λ t. FindsBy (IsNumberIn t) bytes ends places symbols result)

-- these are the strings of symbols
abbrev pub AreStored : List (List ℕ) → List ℕ → List (List ℕ) → Type 0
AreStored contents symbols strings = map (slice_get contents) symbols ≡ map Some strings

-- the ends of concatenated strings, from a position on
abbrev pub ends_from : ℕ → List (List ℕ) → List ℕ
ends_from start [] = []
ends_from start (string ∷ strings) = (start + length string) ∷ ends_from (start + length string) strings

-- the concatenated strings are copied to the start of a buffer, and the end of each is written
pub record AreCopied (strings : List (List ℕ)) (old new written : List ℕ) : Type 0 where
  pub within : length (concat strings) ≤ length old
  pub buffer : new ≡ concat strings ++ drop (length (concat strings)) old
  pub ends : written ≡ ends_from 0 strings

-- the strings of the first n symbols are copied, and nothing behind them is written
pub record AreFirstCopied (contents : List (List ℕ)) (symbols buffer places buffer' ends : List ℕ)
    (n : ℕ) : Type 0 where
  pub strings : List (List ℕ)
  pub stored : AreStored contents (take n symbols) strings
  pub copied : AreCopied strings buffer buffer' (take n ends)
  pub rest : drop n ends ≡ drop n places

-- the strings of symbols are copied; or only those before one that has no string,
-- or before one whose string is too long for the rest of the buffer
abbrev pub CopiesEach : List (List ℕ) → List ℕ → List ℕ → List ℕ → Result (Unit {0}) Refusal →
    List ℕ → List ℕ → Type 0
CopiesEach contents symbols buffer places (Ok _) buffer' ends =
    (strings : List (List ℕ)) × AreStored contents symbols strings × AreCopied strings buffer buffer' ends
CopiesEach contents symbols buffer places (Err NoSymbol) buffer' ends =
    (n : ℕ) × (n < length symbols) × (slice_get contents (get_or symbols n 0) ≡ None)
    × AreFirstCopied contents symbols buffer places buffer' ends n
CopiesEach contents symbols buffer places (Err NoSpace) buffer' ends =
    (n : ℕ) × (string : List ℕ) × (n < length symbols)
    × (slice_get contents (get_or symbols n 0) ≡ Some string)
    × (first : AreFirstCopied contents symbols buffer places buffer' ends n)
    × (length buffer < length (concat first.strings) + length string)
CopiesEach contents symbols buffer places (Err _) buffer' ends = ⊥

-- the same, with a place for the end of each
abbrev pub CopiesAll : List ℕ → List ℕ → List ℕ → List ℕ → List ℕ → Handle →
    Result (Unit {0}) Refusal → Type 0
CopiesAll symbols buffer places buffer' ends handle result =
    MatchOption (table_of handle) ((result ≡ Err NoTable) × (buffer' ≡ buffer) × (ends ≡ places))
    (λ t. Either (length places == length symbols)
    (CopiesEach t.state.contents symbols buffer places result buffer' ends) ((result ≡ Err BadEnds)
    × (buffer' ≡ buffer) × (ends ≡ places)))
