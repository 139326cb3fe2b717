-- The laws that callers cite. Those from `below` are proved in `intaglio_interner`, and stated again here so
-- that a crate that lists only `intaglio` finds them.
use Rattle.std.proofs.Common.{◌≡◌, ◌≢◌, ◌∙◌, ap, refl, sym, arith, ℕ, zero, suc, ◌+◌, ◌<◌, List, [], ◌∷◌, ◌++◌, length, map, take, get_or, length-append, Option, Some, None, option_map, is_some, MatchOption, Result, Ok, slice_get, ◌↔◌, IsTrue, Contains, AllPairs}
use Rattle.intaglio.proofs.Names.{length-map, map-append, same_Some, slice_get_within, Key, IsMoved, IsPushed, InternError, State, first_of, first, spelling_at, IsValid, Empties, IsAdded, IsAppended, Interns, IsCopyAppended, InternsForm, IsFound, FindsNothing, IsStored, Keeps, issue_from, interned_all, first-tells, none-each, some-below}
use Rattle.intaglio_interner.proofs.Laws as below
use Rattle.intaglio.specs.Grows.{Grows, GrowsByForm}

-- a search among keys finds a position exactly if one of them is the sought key
found-or-not : (keys : List Key) (k : Key) (o : Option ℕ) → first_of keys k ≡ o → IsTrue (is_some o) ↔
    Contains keys k
found-or-not keys k None e = (λ t. cc, λ c. absurd (none-each keys k e c.0 k c.1 c.2))
found-or-not keys k (Some i) e = let at = first-tells keys k (Some i) e in (λ t. (i, at.0, at.1 k), λ c. refl)

-- the content at a symbol below the number of contents
pub content-at : {C : Type 0} (cs : List C) (i : ℕ) → i < length cs → (c : C) × (slice_get cs i ≡ Some c)
content-at [] i below = absurd (omega arith)
content-at (c ∷ cs) zero below = (c, refl)
content-at (c ∷ cs) (suc i) below = content-at cs i (omega arith)

module _ {C : Type 0} (key : C → Key) where
  -- what is found has the key that was looked up
  pub first_key : (cs : List C) (k : Key) (i : ℕ) → first key cs k ≡ Some i →
      option_map key (slice_get cs i) ≡ Some k
  first_key = below.first-key key

  -- what is found is stored under the symbol at which it is found
  pub found_stored : (s : State C) (k : Key) (i : ℕ) → IsFound key s k i → IsStored key s k i
  found_stored = below.found-stored key

  -- a symbol that is found is below the number of contents
  pub found_below : (s : State C) (k : Key) (i : ℕ) → IsFound key s k i → i < length s.contents
  found_below s k i e = omega (arith, some-below (map key s.contents) k i e, length-map s.contents key)

  -- a symbol below the number of contents has a content
  pub has_content : (s : State C) (i : ℕ) → i < length s.contents →
      (c : C) × (slice_get s.contents i ≡ Some c)
  has_content s i below = content-at s.contents i below

  -- a content is found at its symbol
  pub stored_found : (s : State C) (k : Key) (i : ℕ) → IsValid key s → IsStored key s k i → IsFound key s k i
  stored_found = below.stored-found key

  -- equal contents have the same symbol, and different ones different symbols
  pub same_symbol : (s : State C) (k l : Key) (i j : ℕ) → IsFound key s k i → IsFound key s l j →
      (k ≡ l) ↔ (i ≡ j)
  same_symbol s k l i j a b = (
    λ e. same_Some i j (sym a ∙ ap (λ (x : Key). first key s.contents x) e ∙ b),
    λ e. same_Some k l (sym (first_key s.contents k i a)
        ∙ ap (λ (n : ℕ). option_map key (slice_get s.contents n)) e ∙ first_key s.contents l j b),
  )

  -- if there are no contents, nothing is found
  pub empty_finds_nothing : (s : State C) → s.contents ≡ [] → FindsNothing key s
  empty_finds_nothing s e k = rw e refl

  -- after a clear nothing is found
  pub cleared_finds_nothing : (old new : State C) → Empties old new → FindsNothing key new
  cleared_finds_nothing old new step = empty_finds_nothing new step.contents

  -- the same contents are found at the same symbols
  pub same_contents_keeps : (old new : State C) → new.contents ≡ old.contents → Keeps key old new
  same_contents_keeps = below.same-contents-keeps key

  -- what is kept over one call and over the next is kept over both
  pub keeps_then : (old next new : State C) → Keeps key old next → Keeps key next new → Keeps key old new
  keeps_then = below.keeps-then key

  -- a symbol keeps its content, and so its spelling
  pub keeps_content : (old new : State C) (i : ℕ) → Keeps key old new → i < length old.contents →
      slice_get new.contents i ≡ slice_get old.contents i
  keeps_content old new i kept below = let held = has_content old i below in
      kept.stored i held.0 held.1 ∙ sym held.1

  -- the same of the spelling alone
  pub keeps_text : (spelling : C → List ℕ) (old new : State C) (i : ℕ) → Keeps key old new →
      i < length old.contents → spelling_at spelling new i ≡ spelling_at spelling old i
  keeps_text spelling old new i kept below = ap (option_map spelling) (keeps_content old new i kept below)

  -- a symbol stays below the number of contents
  pub keeps_below : (old new : State C) (i : ℕ) → Keeps key old new → i < length old.contents →
      i < length new.contents
  keeps_below old new i kept below = let held = has_content old i below in
      slice_get_within new.contents i held.0 (kept.stored i held.0 held.1)

  -- the contents that are kept are the first ones afterwards
  pub keeps_front : (old new : State C) → Keeps key old new →
      take (length old.contents) new.contents ≡ old.contents
  keeps_front = below.keeps-front key

  -- after contents were interned in order, each is found at the symbol that it was issued
  pub issued_each : (held cs : List C) (n : ℕ) (c : C) (i : ℕ) → slice_get cs n ≡ Some c →
      slice_get (issue_from key held cs) n ≡ Some i → first key (interned_all key held cs) (key c) ≡ Some i
  issued_each = below.issued-each key

  -- a look-up finds a symbol exactly if a content has the key
  pub found_contains : (cs : List C) (k : Key) → IsTrue (is_some (first key cs k)) ↔ Contains (map key cs) k
  found_contains cs k = found-or-not (map key cs) k (first key cs k) refl

  -- a content that wasn't found is interned at the end of the list
  pub absent_grows : (old new : State C) (c : C) (i : ℕ) → first key old.contents (key c) ≡ None →
      Interns key old c (Ok i) new → Grows old c i new
  absent_grows old new c i none step = let taken : IsAppended old c i new = rw none at step in
      (taken.position, taken.contents)

  -- a content that was found is there already, and nothing changes
  pub found_same : (old new : State C) (c : C) (i j : ℕ) → IsFound key old (key c) j →
      Interns key old c (Ok i) new → (i ≡ j) × (new ≡ old)
  found_same old new c i j found step = let same : (◌≡◌ {A = Result ℕ InternError} (Ok i) (Ok j))
      × (new ≡ old) = rw found at step in (cc, same.1)

  by-count : (adds : List C → List C → Type 0) (o : Option ℕ) (old new : State C) (i : ℕ) (G : Type 0) →
      (IsAdded adds old i new → (length new.contents ≡ length old.contents + 1) × G)
      → MatchOption o (IsAdded adds old i new) (λ j. (◌≡◌ {A = Result ℕ InternError} (Ok i) (Ok j))
      × (new ≡ old))
      → (length new.contents ≡ length old.contents → (o ≡ Some i) × (new ≡ old))
      × (length new.contents ≢ length old.contents → (o ≡ None) × G)
  by-count adds None old new i G grows h = let one = grows h in
      (λ e. absurd (omega (arith, e, one.0)), λ n. (refl, one.1))
  by-count adds (Some j) old new i G grows h =
      (λ e. (cc, h.1), λ n. absurd (n (ap (λ (s : State C). length s.contents) h.1)))

  -- whether there are more contents says whether it was found
  pub counted : (old new : State C) (c : C) (i : ℕ) → Interns key old c (Ok i) new
      → (length new.contents ≡ length old.contents → IsFound key old (key c) i × (new ≡ old))
      × (length new.contents ≢ length old.contents → (first key old.contents (key c) ≡ None)
      × Grows old c i new)
  counted old new c i step =
      by-count (IsMoved c) (first key old.contents (key c)) old new i (Grows old c i new)
      (λ h. (rw h.contents (length-append old.contents (c ∷ [])), (h.position, h.contents))) step

  module _ (spelling : C → List ℕ) where
    form-grows : (old new : State C) (k : Key) (w : List ℕ) (i : ℕ) →
        IsCopyAppended key spelling old k w i new → GrowsByForm key spelling old k w i new
    form-grows old new k w i h = record {
      position = h.position;
      keys = rw (
        h.contents.added,
        map-append key old.contents (h.contents.copy ∷ []),
        h.contents.same_key,
      ) refl;
      spellings = rw (
        h.contents.added,
        map-append spelling old.contents (h.contents.copy ∷ []),
        h.contents.same_spelling,
      ) refl;
    }

    -- the same for a form, of which a copy is interned
    pub absent_form_grows : (old new : State C) (k : Key) (w : List ℕ) (i : ℕ) →
        first key old.contents k ≡ None → InternsForm key spelling old k w (Ok i) new →
        GrowsByForm key spelling old k w i new
    absent_form_grows old new k w i none step = let taken : IsCopyAppended key spelling old k w i new =
        rw none at step in form-grows old new k w i taken

    -- a form that was found is there already, and nothing changes
    pub found_form_same : (old new : State C) (k : Key) (w : List ℕ) (i j : ℕ) → IsFound key old k j →
        InternsForm key spelling old k w (Ok i) new → (i ≡ j) × (new ≡ old)
    found_form_same old new k w i j found step = let same : (◌≡◌ {A = Result ℕ InternError} (Ok i) (Ok j))
        × (new ≡ old) = rw found at step in (cc, same.1)

    -- whether there are more contents says whether the form was found
    pub counted_form : (old new : State C) (k : Key) (w : List ℕ) (i : ℕ) →
        InternsForm key spelling old k w (Ok i) new
        → (length new.contents ≡ length old.contents → IsFound key old k i × (new ≡ old))
        × (length new.contents ≢ length old.contents → (first key old.contents k ≡ None)
        × GrowsByForm key spelling old k w i new)
    counted_form old new k w i step =
        by-count (IsPushed key spelling k w) (first key old.contents k) old new i
        (GrowsByForm key spelling old k w i new)
        (λ h. (
          rw h.contents.added (length-append old.contents (h.contents.copy ∷ [])),
          form-grows old new k w i h,
        )) step

-- of the kinds whose key is the spelling as one item: all but paths
module _ {C : Type 0} (key : C → Key) (spelling : C → List ℕ) (bytewise : (c : C) →
    key c ≡ spelling c ∷ []) where
  key-at : (cs : List C) (i : ℕ) (d : List ℕ) →
      get_or (map key cs) i (d ∷ []) ≡ get_or (map spelling cs) i d ∷ []
  key-at [] i d = refl
  key-at (c ∷ cs) zero d = bytewise c
  key-at (c ∷ cs) (suc i) d = key-at cs i d

  -- a look-up finds a symbol exactly if a content has the spelling
  pub found_spelled : (cs : List C) (w : List ℕ) → IsTrue (is_some (first key cs (w ∷ []))) ↔
      Contains (map spelling cs) w
  found_spelled cs w =
      let law = found_contains key cs (w ∷ []) in
      let size : length (map key cs) ≡ length (map spelling cs) =
      length-map cs key ∙ sym (length-map cs spelling) in (
        λ t. let c = law.0 t in let lt = c.1 in let e : get_or (map spelling cs) c.0 w ∷ [] ≡ w ∷ [] =
            sym (key-at cs c.0 w) ∙ c.2 in (c.0, omega arith, cc),
        λ c. let lt = c.1 in law.1 (c.0, omega arith, key-at cs c.0 w ∙ ap (λ (v : List ℕ). v ∷ []) c.2),
      )

  -- a symbol has a spelling exactly if a look-up of the spelling finds this symbol
  pub spelled_at : (s : State C) (w : List ℕ) (i : ℕ) → IsValid key s → (spelling_at spelling s i ≡ Some w) ↔
      IsFound key s (w ∷ []) i
  spelled_at s w i valid = (
    λ read. below.spelling-found key spelling (λ (v : List ℕ). v ∷ []) s w i bytewise valid (sym read),
    λ found. let is = found_stored key s (w ∷ []) i found in let same : spelling is.content ∷ [] ≡ w ∷ [] =
        sym (bytewise is.content) ∙ is.same_key in rw is.stands (cc),
  )

  -- the spellings of a table's contents are distinct
  pub spellings_differ : (s : State C) → IsValid key s → AllPairs (λ v w. v ≢ w) (map spelling s.contents)
  spellings_differ s valid = λ i j d lt below e.
      let size : length (map key s.contents) ≡ length (map spelling s.contents) =
      length-map s.contents key ∙ sym (length-map s.contents spelling) in
      valid.distinct i j (d ∷ []) lt (omega arith) (key-at s.contents i d ∙ ap (λ (v : List ℕ). v ∷ []) e
      ∙ sym (key-at s.contents j d))

  -- whether there are more contents says whether a text was there, and the list of the texts afterwards
  pub counted_spelled : (old new : State C) (w : List ℕ) (i : ℕ) →
      InternsForm key spelling old (w ∷ []) w (Ok i) new
      → (length new.contents ≡ length old.contents → Contains (map spelling old.contents) w × (new ≡ old))
      × (length new.contents ≢ length old.contents →
      map spelling new.contents ≡ map spelling old.contents ++ w ∷ [])
  counted_spelled old new w i step =
      let law = counted_form key spelling old new (w ∷ []) w i step in (
        λ e. ((found_spelled old.contents w).0 (ap (λ (o : Option ℕ). is_some o) (law.0 e).0), (law.0 e).1),
        λ n. (law.1 n).1.spellings,
      )
