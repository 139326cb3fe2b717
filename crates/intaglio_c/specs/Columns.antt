-- What C sees of a column, which is its bytes.
use Rattle.std.specs.Prelude.{◌≡◌, ◌⊎◌, ◌≢◌}
use Rattle.intaglio_c.specs.Words.{ℕ, List, length, MatchResult, Result, Ok, Err, Describes, HasRows, IsColumn, codes, AreCounts, file_of, header_for, lines, ColumnError, ColumnWriteError, Reference, Refusal, NoMemory, BadEnds, NoSymbol, NoKind, OtherVersion, Reserved, TooMany, Truncated, NotColumn, BadWidth, TrailingBytes, BadShard, Damaged}
use Rattle.intaglio_columns.specs.Fault.{IsFault}
use Rattle.intaglio_columns.specs.Layout.{shards, strings}
use Rattle.intaglio_columns.specs.Writing.{IsRefusal}
use Rattle.intaglio_columns.specs.declared.file.error.ColumnError.TheVariants as fault
use Rattle.intaglio_columns.specs.declared.file.error.ColumnWriteError.TheVariants as error
use Rattle.intaglio_c.specs.Handles.{GivesMade}

-- the error for C of what is wrong with bytes
abbrev pub column_refusal : ColumnError → Refusal
column_refusal fault.Magic = NotColumn
column_refusal fault.Header = Truncated
column_refusal fault.OldVersion = OtherVersion
column_refusal fault.Version = OtherVersion
column_refusal fault.Kind = NoKind
column_refusal fault.TooMany = TooMany
column_refusal fault.Width = BadWidth
column_refusal fault.Source = BadShard
column_refusal fault.Reserved = Reserved
column_refusal fault.Truncated = Truncated
column_refusal fault.TooLong = TrailingBytes
column_refusal fault.Damaged = Damaged
column_refusal (fault.NoString _) = NoSymbol
column_refusal (fault.Missing _) = NoSymbol

-- the bytes have a fault, of which this is the error
abbrev pub IsNoColumn : List ℕ → Refusal → Type 0
IsNoColumn bs refusal = (what : ColumnError) × (refusal ≡ column_refusal what) × IsFault bs what

-- bytes are checked: they are a column, or what is wrong with them is returned
abbrev pub ChecksColumn : List ℕ → Result (Unit {0}) Refusal → Type 0
ChecksColumn bs result = MatchResult result (λ _. IsColumn bs) (IsNoColumn bs)

-- counts are written over places, one for each string; or nothing is, since there are more or fewer
-- places, or the bytes have no rows
abbrev pub Counts : List ℕ → List ℕ → List ℕ → ℕ → ℕ → Result (Unit {0}) Refusal → Type 0
Counts bs places counts gone gone' (Ok _) =
    HasRows bs × (length places ≡ strings bs) × AreCounts (strings bs) (codes bs) counts gone'
Counts bs places counts gone gone' (Err BadEnds) =
    HasRows bs × (length places ≢ strings bs) × (counts ≡ places) × (gone' ≡ gone)
Counts bs places counts gone gone' (Err refusal) = (¬ HasRows bs) × IsNoColumn bs refusal × (counts ≡ places)
    × (gone' ≡ gone)

-- bytes are the column of these codes
pub record IsColumnOf (to : Reference) (cs bs : List ℕ) : Type 0 where
  pub bytes : bs ≡ file_of (header_for to.id to.shards lines cs) cs
  pub column : IsColumn bs
  pub dictionary : Describes bs to.id
  pub shards : to.shards ≡ shards bs
  pub codes : codes bs ≡ cs

-- the error for C of why codes weren't made a column
abbrev pub write_refusal : ColumnWriteError → Refusal
write_refusal error.TooMany = TooMany
write_refusal (error.NoString _) = NoSymbol
write_refusal (error.Missing _) = NoSymbol
write_refusal error.Memory = NoMemory

-- codes are made a column of a dictionary, or there is an error that says why they aren't
abbrev pub WritesColumn : Reference → List ℕ → List ℕ → List ℕ → ℕ → ℕ → Result (Unit {0}) Refusal → Type 0
WritesColumn to cs = GivesMade (IsColumnOf to cs) (λ refusal. ((refusal ≡ BadShard) × (to.shards ≡ 0))
    ⊎ ((why : ColumnWriteError) × (refusal ≡ write_refusal why) × IsRefusal 0 to.id.count cs why))
