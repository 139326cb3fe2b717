-- What is wrong with bytes that are no frozen table.
use Rattle.std.specs.Prelude.{◌≡◌, ◌≢◌, ℕ, ◌-◌, ◌^◌, ◌<◌, ◌≤◌, ◌⊎◌, List, length, slice_get, Some, IsUtf8}
use Rattle.intaglio_frozen.specs.Strings.{AreEnds}
use Rattle.intaglio_hash.specs.Numbers.{u32_at}
use Rattle.intaglio_frozen.specs.Identity.{HasId}
use Rattle.intaglio_frozen.specs.Layout.{kind, count, shards, shard, size, text_at, ends, strings}
use Rattle.intaglio_frozen.specs.Checked.{AreFoundBelow, IsNotFoundAt}
use Rattle.intaglio_frozen.specs.IsFrozen.{HasMagic, HasVersion, HasKind, HasSet, HasHeader, HasSections, IsBlock, HasUnused, IsReserved, AreTextsBefore, text_kind}
use Rattle.intaglio_frozen.specs.declared.error.FrozenError.{FrozenError}
use Rattle.intaglio_frozen.specs.declared.error.FrozenError.TheVariants.{Magic, OldVersion, Version, Kind, Reserved, TooMany, Shard, OtherIdentity, Truncated, TooLong, Ends, Unused, NotFound, NotUtf8}

-- the string at i is the first that isn't UTF-8
abbrev pub IsNoText : List (List ℕ) → ℕ → Type 0
IsNoText ws i = (w : List ℕ) × (slice_get ws i ≡ Some w) × AreTextsBefore i ws × ¬ IsUtf8 w

-- the bytes have this fault, and what is read before it is right
abbrev pub IsFault : List ℕ → FrozenError → Type 0
IsFault bs Magic = ¬ HasMagic bs
IsFault bs OldVersion = HasMagic bs × (12 ≤ length bs) × (u32_at bs 8 ≡ 1)
IsFault bs Version = HasMagic bs × (12 ≤ length bs) × (u32_at bs 8 ≢ 1) × (u32_at bs 8 ≢ 2)
IsFault bs Kind = HasVersion bs × (128 ≤ length bs) × (text_kind < kind bs)
IsFault bs Reserved = HasKind bs × ¬ IsReserved bs
IsFault bs TooMany = HasKind bs × IsReserved bs × (2 ^ 31 < count bs)
IsFault bs Shard = HasKind bs × IsReserved bs × (count bs ≤ 2 ^ 31) × (shards bs ≤ shard bs)
IsFault bs OtherIdentity =
    (HasKind bs × IsReserved bs × (count bs ≤ 2 ^ 31) × (shard bs < shards bs) × ¬ HasSet bs)
    ⊎ (IsBlock bs × ¬ HasId bs)
IsFault bs Truncated =
    (HasMagic bs × (length bs < 12)) ⊎ (HasVersion bs × (length bs < 128))
    ⊎ (HasHeader bs × (length bs < size bs))
IsFault bs TooLong = HasHeader bs × (size bs < length bs)
IsFault bs Ends = HasSections bs × ¬ AreEnds 0 (length bs - text_at bs) (ends bs)
IsFault bs Unused = IsBlock bs × ¬ HasUnused bs
IsFault bs (NotFound i) = IsBlock bs × AreFoundBelow bs i × IsNotFoundAt bs i
IsFault bs (NotUtf8 i) = IsBlock bs × (kind bs ≡ text_kind) × IsNoText (strings bs) i

-- where ends aren't checked: the header or the length has this fault, or else the identity is another
abbrev pub IsIdFault : List ℕ → FrozenError → Type 0
IsIdFault bs error =
    (IsFault bs error × ¬ HasSections bs) ⊎ ((error ≡ OtherIdentity) × HasSections bs × ¬ HasId bs)
