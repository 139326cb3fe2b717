-- What two runs of the same calls have in common.
use Rattle.std.specs.Prelude.{◌≡◌, ◌≢◌, ℕ, Bool, List, map, Option, option_map, All}
use Rattle.intaglio_content.specs.Key.{Key}
use Rattle.intaglio_content.specs.Work.{Event}
use Rattle.intaglio_interner.specs.State.{State}
use Rattle.intaglio_interner.specs.Run.{Runs}
use Rattle.intaglio_interner.specs.declared.runs.Call.{Call}
use Rattle.intaglio_interner.specs.declared.runs.Reply.{Reply}
use Rattle.intaglio_interner.specs.declared.runs.Reply.TheVariants as reply

-- what a reply says: a spelling is compared by its bytes, wherever they lie in memory
pub data Seen : Type 0 where
  symbol : Option ℕ → Seen
  pair : Option (ℕ × List ℕ) → Seen
  bool : Bool → Seen
  spelling : Option (List ℕ) → Seen
  count : ℕ → Seen
  done : Seen
  overflow : Seen
  capacity_overflow : Seen
  no_memory : Seen
  stale : Seen

abbrev pub seen : Reply → Seen
seen (reply.Symbol r) = symbol r
seen (reply.Pair r) = pair (option_map {U = ℕ × List ℕ} (λ p. (p.0, p.1.items)) r)
seen (reply.Bool r) = bool r
seen (reply.Spelling r) = spelling (option_map (λ v. v.items) r)
seen (reply.Count n) = count n
seen reply.Done = done
seen reply.Overflow = overflow
seen reply.CapacityOverflow = capacity_overflow
seen reply.NoMemory = no_memory
seen reply.Stale = stale

-- no call ran out of memory
abbrev pub HasMemory : List Reply → Type 0
HasMemory replies = All (λ r. r ≢ reply.NoMemory) replies

-- two runs of the same calls, from the same contents under the same limit, reply the same and leave the same
-- contents, whatever their hash functions, buckets and spare capacity, if neither ran out of memory
abbrev pub AreAlike : {C : Type 0} → (C → Key) → (C → List ℕ) → Type 0
AreAlike {C} key spells =
    (hash hash' : Key → ℕ) (old old' new new' : State C) (calls : List (Call C))
    (replies replies' : List Reply) (cost cost' : List Event)
    → old.contents ≡ old'.contents → old.limit ≡ old'.limit
    → Runs key spells hash old calls replies cost new → Runs key spells hash' old' calls replies' cost' new'
    → HasMemory replies → HasMemory replies'
    → (map seen replies ≡ map seen replies') × (new.contents ≡ new'.contents)
