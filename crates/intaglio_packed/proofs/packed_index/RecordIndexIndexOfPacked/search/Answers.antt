-- The search gives each number with the hash once (`equal-hashes`), and keys are distinct. So the first one
-- with the key is the only one (`finds`), and if none is left, no string has the key (`ends`).
use Rattle.intaglio_packed.proofs.Names.{common_steps, length-map, slice_get-map, slice_get_within, Key, IsLeft, hashes_of, strings_of, IsSearching, compared-as, ends, finds, goes-on, none-passed}
use Rattle.std.proofs.Common.{◌≡◌, ◌<◌, ℕ, List, ◌∷◌, length, map, sym, refl, arith, ◌∙◌, Some, None, true}
use Rattle.std.proofs.lemmas.Simd.{map-map}
use Rattle.intaglio_content.specs.Store.{IsCompared}
use Rattle.intaglio_content.specs.Work.{Event}
use Rattle.intaglio_interner.specs.Cost.{Adds}
use Rattle.intaglio_interner.specs.State.{first}
use Rattle.intaglio_core.specs.IndexOf.{AreHashed, LookupCost}
use Rattle.intaglio_packed.proofs.EqualHashes.{equal-hashes}
use Rattle.intaglio_packed.proofs.packed_index.RecordIndexIndexOfPacked.search.Given.{Over}
use Rattle.intaglio_packed.proofs.packed_index.RecordIndexIndexOfPacked.search.Goals as goal
use Rattle.intaglio_packed.proofs.packed_index.RecordIndexIndexOfPacked.search.Goals.{In-Some, In_default}

-- the number of the next string, and those that are left behind it
next-in : (g : Over) (c : In-Some g) →
    (rest : List ℕ) × IsLeft c.args.list.now.list c.args.hash c.next.new.self rest
    × IsSearching (map g.K.StringKind.key_of (strings_of c.args.list.now)) (g.Q.Keyed.key c.args.sought.now) 0
    c.loop-found.invariant.0 (c.in-Some.found.0 ∷ rest) c.args.work.now.events c.loop-found.work.events
    × (c.in-Some.found.0 < length (strings_of c.args.list.now))
next-in g c =
    let xs = c.args.list.now.list in
    let at = c.loop-found.invariant in
    let given = c.in-Some.ensures.gives xs c.args.hash at.1 at.3 in (
      given.0,
      given.2,
      rw given.1 at at.4,
      omega (
        arith,
        slice_get_within xs c.in-Some.found.0 (c.args.hash, c.in-Some.found.1.now) given.3,
        length-map xs (λ (p : ℕ × List ℕ). p.1),
      ),
    )

-- it has the key
met : (g : Over) (c : In-Some g) (later : List Event) →
    IsCompared g.K.StringKind.key_of (strings_of c.args.list.now) c.in-Some.found.0
    (g.Q.Keyed.key c.args.sought.now)
    true c.loop-found.work.events later
    → (h : Key → ℕ) → AreHashed g.K.StringKind.key_of h (strings_of c.args.list.now) (hashes_of c.args.list.now)
    (g.Q.Keyed.key c.args.sought.now) c.args.hash
    → (Some c.in-Some.found.0 ≡ first g.K.StringKind.key_of (strings_of c.args.list.now)
    (g.Q.Keyed.key c.args.sought.now))
    × Adds c.args.work.now.events later
    (LookupCost g.K.StringKind.key_of h (strings_of c.args.list.now) c.args.self.now.places
    (g.Q.Keyed.key c.args.sought.now))
met g c later is h by =
    let strings = strings_of c.args.list.now in
    let keys = map g.K.StringKind.key_of strings in
    let k = g.Q.Keyed.key c.args.sought.now in
    let at = c.loop-found.invariant in
    let turn = next-in g c in
    let seen = compared-as g.K.StringKind.key_of strings c.in-Some.found.0 k true _ later turn.3 is in
    let equal = equal-hashes h keys k c.args.list.now.list c.args.hash at.0 (by.stored
    ∙ sym (map-map h g.K.StringKind.key_of strings)) by.sought at.2 in
    finds h keys k c.requires.distinct at.0 equal 0 c.args.self.now.places
    (none-passed h keys k c.requires.distinct at.0 equal c.args.self.now.places) c.in-Some.found.0 turn.0 _
    _ _ turn.2 (seen.1 refl) seen.0

-- none is left
ended : (g : Over) (c : In_default g) (h : Key → ℕ) →
    AreHashed g.K.StringKind.key_of h (strings_of c.args.list.now) (hashes_of c.args.list.now)
    (g.Q.Keyed.key c.args.sought.now) c.args.hash
    → (None ≡ first g.K.StringKind.key_of (strings_of c.args.list.now) (g.Q.Keyed.key c.args.sought.now))
    × Adds c.args.work.now.events c.loop-found.work.events
    (LookupCost g.K.StringKind.key_of h (strings_of c.args.list.now) c.args.self.now.places
    (g.Q.Keyed.key c.args.sought.now))
ended g c h by =
    let strings = strings_of c.args.list.now in
    let keys = map g.K.StringKind.key_of strings in
    let k = g.Q.Keyed.key c.args.sought.now in
    let at = c.loop-found.invariant in
    let none = c.in_default.ensures.gives c.args.list.now.list c.args.hash at.1 at.3 in
    let equal = equal-hashes h keys k c.args.list.now.list c.args.hash at.0 (by.stored
    ∙ sym (map-map h g.K.StringKind.key_of strings)) by.sought at.2 in
    ends h keys k c.requires.distinct at.0 equal 0 c.args.self.now.places
    (none-passed h keys k c.requires.distinct at.0 equal c.args.self.now.places) _ _ (rw none.0 at at.4)

pub same_at-requires-clause-there : goal.same_at-requires-clause-there
same_at-requires-clause-there g c = (next-in g (goal.at.same_at-requires-clause-there g c).In-Some).3

pub same_at-requires-clause-read : goal.same_at-requires-clause-read
same_at-requires-clause-read g c =
    let xs = c.args.list.now.list in
    let at = c.loop-found.invariant in
    rw (
      slice_get-map (λ (p : ℕ × List ℕ). p.1) xs c.in-Some.found.0,
      (c.in-Some.ensures.gives xs c.args.hash at.1 at.3).3,
    ) refl

pub returns-then-same_at-clause-found : goal.returns-then-same_at-clause-found
returns-then-same_at-clause-found g c =
    let by = c.requires.hashed in
    rw c.new.ensures (met g (goal.at.returns-then-same_at-clause-found g c).In-Some _ c.if-same_at.ensures
    by.0 by.1).0

pub returns-then-same_at-clause-cost : goal.returns-then-same_at-clause-cost
returns-then-same_at-clause-cost g c =
    λ h by. (met g (goal.at.returns-then-same_at-clause-cost g c).In-Some _ c.if-same_at.ensures h by).1

pub loop-found-preserved : goal.loop-found-preserved
loop-found-preserved g c =
    let at = c.loop-found.invariant in
    let turn = next-in g (goal.at.loop-found-preserved g c).In-Some in
    let seen =
    compared-as g.K.StringKind.key_of (strings_of c.args.list.now) c.in-Some.found.0
    (g.Q.Keyed.key c.args.sought.now) _ _ _ turn.3 c.if-same_at.ensures in (
      at.0,
      turn.0,
      at.2,
      turn.1,
      goes-on _ _ 0 at.0 turn.0 c.in-Some.found.0 _ _ _ _ turn.2 (seen.2 refl) seen.0
          c.step-in-Some.ensures,
    )

pub returns-clause-found : goal.returns-clause-found
returns-clause-found g c = grind (arith, common_steps, ended)

pub returns-clause-cost : goal.returns-clause-cost
returns-clause-cost g c = λ h by. (ended g (goal.at.returns-clause-cost g c).In_default h by).1
