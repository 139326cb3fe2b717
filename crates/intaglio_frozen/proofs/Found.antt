-- What look-ups find, where each text is found at its position.
use Rattle.intaglio_frozen.proofs.Names.{common_steps, gets, slice_get_within, slice_get-map, slice_get-get_or, Key, first, AreDistinct, first_of, first-none, first-some, tags_at, key0, key1, if_same, find_at, FindsAll, hash_under, cases_lt, AreFoundBelow, AreFoundFrom, AreHashesFrom, map_more}
use Rattle.std.proofs.Common.{◌≡◌, ℕ, suc, ◌+◌, ◌*◌, ◌%◌, ◌<◌, ◌==◌, Bool, true, cond, List, [], ◌∷◌, length, get_or, slice_get, Option, Some, None, map, refl, sym, ap, ◌∙◌, arith, bytes_eq, ◌⊎◌, inl, inr, ◌-◌, ◌≤◌, ◌++◌, take, option_map}
use Rattle.std.specs.Cmp.Lexicographic.{bytes_decides}
use Rattle.intaglio_frozen.proofs.Sharded.{distinct-from}
use Rattle.intaglio_hash.specs.Numbers.{u32_at}
use Rattle.intaglio_frozen.specs.Layout.{strings}
use Rattle.intaglio_frozen.specs.LookUp.{hash, place, find}

-- a text's key
abbrev pub key : List ℕ → Key
key w = w ∷ []

-- if the key at a position is that of a text, the text is there
key-at : (ts : List (List ℕ)) (j : ℕ) (d : Key) (w : List ℕ) → j < length (map key ts) →
    get_or (map key ts) j d ≡ key w → slice_get ts j ≡ Some w
key-at ts j d w l e = grind (arith, common_steps, gets)

-- where a text is, there is a key, and it is that text's
pub at-key : (ts : List (List ℕ)) (j : ℕ) (d : Key) (w : List ℕ) → slice_get ts j ≡ Some w →
    (j < length (map key ts)) × (get_or (map key ts) j d ≡ key w)
at-key ts j d w e = grind (arith, common_steps, gets)

-- if a result is a position of a text or none, and each position of the text is the result, it is the first
by-result : (ts : List (List ℕ)) (w : List ℕ) (r : Option ℕ) →
    ((s : ℕ) → r ≡ Some s → slice_get ts s ≡ Some w) → ((i : ℕ) → slice_get ts i ≡ Some w → r ≡ Some i) →
    r ≡ first key ts (key w)
by-result ts w None sound complete =
    sym (first-none (map key ts) (key w) (λ j l e. let q : ◌≡◌ {A = Option ℕ} None (Some j) =
    complete j (key-at ts j [] w l e) in cc))
by-result ts w (Some s) sound complete =
    let h = at-key ts s [] w (sound s refl) in
    sym (first-some (map key ts) (key w) s h.0 h.1 (λ j l e. let q : Some s ≡ Some j =
    complete j (key-at ts j [] w (omega (arith, l, h.0)) e) in let same : s ≡ j = cc in
    omega (arith, l, same)))

-- if a test leaves a symbol or none, and a symbol is left, the test is passed, and it is that symbol
tested : (b : Bool) (s i : ℕ) → cond b (Some s) None ≡ Some i → (b ≡ true) × (s ≡ i)
tested b s i e = grind (arith, common_steps)

-- if a test leaves a result or none, and a symbol is left, the result was that symbol
passed : (b : Bool) (o : Option ℕ) (i : ℕ) → cond b o None ≡ Some i → o ≡ Some i
passed b o i e = grind (arith, common_steps)

-- if a comparison with the string of a symbol finds one, it is this symbol, and the string is the sought one
same-sound : (o : Option (List ℕ)) (s i : ℕ) (w : List ℕ) → if_same o s w ≡ Some i → (o ≡ Some w) × (s ≡ i)
same-sound None s i w e = cc
same-sound (Some t) s i w e =
    let h = tested (bytes_eq t w) s i e in
    (ap Some ((bytes_decides t w).0 h.0), h.1)

-- what is found is the sought text
pub find-sound : (bs w : List ℕ) (i : ℕ) → find bs w ≡ Some i → slice_get (strings bs) i ≡ Some w
unfolding find
find-sound bs w i e =
    let p = place bs (hash bs w) in
    let s = u32_at bs (128 + 4 * p) in
    let h = same-sound (slice_get (strings bs) s) s i w
    (passed (get_or bs (tags_at bs + p) 0 == hash bs w % 256) (if_same (slice_get (strings bs) s) s w) i
    e) in
    ap (slice_get (strings bs)) (sym h.1) ∙ h.0

-- if each string is found where it is, a look-up finds the first position of a string, or none if it has none
pub find-is-first : (bs w : List ℕ) → FindsAll bs → find bs w ≡ first key (strings bs) (key w)
find-is-first bs w all = by-result (strings bs) w (find bs w) (λ s e. find-sound bs w s e) (λ i e. all i w e)

-- if each string is found at its position, no two strings have equal keys
pub all_distinct : (bs : List ℕ) → FindsAll bs → AreDistinct (map key (strings bs))
all_distinct bs all = distinct-from (strings bs) (λ i j w below one other.
    let found : Some i ≡ Some j = sym (all i w one) ∙ all j w other in
    let same : i ≡ j = cc in
    omega (arith, below, same))

-- what is found, step by step
pub find-by : (bs w : List ℕ) (h p : ℕ) → h ≡ hash bs w → p ≡ place bs h →
    find bs w ≡ find_at bs p (h % 256) w
unfolding find
find-by bs w h p eh ep = rw (ep, eh) refl

-- at a place that has another tag, nothing is found
pub at-other : (bs w : List ℕ) (p tag t : ℕ) → t ≡ tags_at bs → (get_or bs (t + p) 0 ≡ tag → ⊥) →
    find_at bs p tag w ≡ None
at-other bs w p tag t et n = grind (arith, common_steps)

-- at a place that has the tag, its symbol is found if its string is the sought one, and else nothing
pub at-same : (bs w : List ℕ) (p tag t s : ℕ) → t ≡ tags_at bs → get_or bs (t + p) 0 ≡ tag →
    s ≡ u32_at bs (128 + 4 * p) →
    find_at bs p tag w ≡ if_same (slice_get (strings bs) s) s w
at-same bs w p tag t s et e es = grind (arith, common_steps)

-- what a test of the only symbol finds
pub same-string : (s : ℕ) (o : Option (List ℕ)) (t w : List ℕ) (b : Bool) → o ≡ Some t → bytes_eq t w ≡ b →
    if_same o s w ≡ cond b (Some s) None
same-string s o t w b e eb = rw (e, eb) refl

-- the string at i is found there if its place has the symbol i
pub found-same : (bs w : List ℕ) (s i : ℕ) → slice_get (strings bs) i ≡ Some w →
    find bs w ≡ if_same (slice_get (strings bs) s) s w → s ≡ i → find bs w ≡ Some i
found-same bs w s i at e same =
    e ∙ same-string s (slice_get (strings bs) s) w w true (ap (slice_get (strings bs)) same
    ∙ at) ((bytes_decides w w).1 refl) ∙ ap Some same

-- if a look-up may find the symbol s alone, it finds no other
pub found-other : (bs w : List ℕ) (s i : ℕ) → find bs w ≡ if_same (slice_get (strings bs) s) s w →
    (s ≡ i → ⊥) → find bs w ≡ Some i → ⊥
found-other bs w s i e other found = other (same-sound (slice_get (strings bs) s) s i w (sym e ∙ found)).1

-- two lists with the same text at each position
pub same_by_get : (xs ys : List (List ℕ)) (n : ℕ) → n ≡ length xs → n ≡ length ys →
    ((k : ℕ) → k < n → slice_get xs k ≡ slice_get ys k) → xs ≡ ys
same_by_get [] [] n e f g = refl
same_by_get (x ∷ xs) (y ∷ ys) (suc n) e f g =
    let first : Some x ≡ Some y = g 0 (omega arith) in
    let tail : xs ≡ ys = same_by_get xs ys n (omega arith) (omega arith) (λ k l. g (suc k) (omega arith)) in
    cc
same_by_get xs ys n e f g = absurd (omega arith)

-- What is found of strings, batch by batch.

-- those before, and a batch
pub found-further : (bs : List ℕ) (start n : ℕ) → AreFoundBelow bs start → AreFoundFrom bs start n →
    AreFoundBelow bs (start + n)
found-further bs start n before after = λ k l. elim (cases_lt k start) [
  | inl below ↦ before k below
  | inr above ↦
      let same : start + (k - start) ≡ k = omega arith in rw same at (after (k - start) (omega arith))
]

-- the hashes of the strings of a table under its keys
pub hashes_of : (bs hs : List ℕ) → hs ≡ map (hash_under (key0 bs) (key1 bs)) (strings bs) →
    AreHashesFrom bs 0 hs
unfolding hash
hashes_of bs hs made = λ k l w is.
    let f = hash_under (key0 bs) (key1 bs) in
    let from : 0 + k ≡ k = omega arith in
    let there : slice_get (strings bs) k ≡ Some w = rw from at is in
    grind (arith, common_steps, gets)

-- all strings, if as many are found as there are
pub found_all : (bs : List ℕ) (n : ℕ) → n ≡ length (strings bs) → AreFoundFrom bs 0 n → FindsAll bs
found_all bs n all found = λ i w is.
    let from : 0 + i ≡ i = omega arith in
    rw from at (found i (omega (arith, all, slice_get_within (strings bs) i w is)) w (rw from is))

-- Batches of strings, which are hashed ahead in groups.

-- an element of a list that has some
pub element : {S : Type 0} (all : List S) (n : ℕ) → n < length all → S
element [] n lt = absurd (omega (arith, lt))
element (s ∷ ss) n lt = s

module _ {S : Type 0} (all : List S) (n : ℕ) where
  -- the string there
  pub string-there : (string : S → List ℕ) (d : S) → n < length all →
      slice_get (map string all) n ≡ Some (string (get_or all n d))
  string-there string d lt = slice_get-map string all n ∙ ap (option_map string) (slice_get-get_or all n d lt)

  -- what is found of those so far, and of one more
  pub found-more : {Y : Type 0} (f : S → Y) (d : S) (old new : List Y) (y : Y) → n < length all →
      old ≡ map f (take n all) → new ≡ old ++ y ∷ [] → y ≡ f (get_or all n d)
      → new ≡ map f (take (n + 1) all)
  found-more f d old new y lt before more is = more ∙ rw (before, is, map_more f all n d lt) refl

-- what is found of strings in a frozen table are their first positions
pub found-first : {S : Type 0} (string : S → List ℕ) (bs : List ℕ) (ss : List S) → FindsAll bs
    → map (λ s. find bs (string s)) ss ≡ map (λ s. first (λ w. w ∷ []) (strings bs) (string s ∷ [])) ss
found-first string bs [] all = refl
found-first string bs (s ∷ ss) all =
    let here = find-is-first bs (string s) all in
    let others = found-first string bs ss all in
    cc

-- Contents whose keys are their spellings.

-- if the key of each content is its spelling alone, the keys of contents are those of their spellings
spelled-keys : {C : Type 0} (key : C → Key) (spelling : C → List ℕ) → ((c : C) → key c ≡ spelling c ∷ []) →
    (cs : List C) →
    map key cs ≡ map (λ w. w ∷ []) (map spelling cs)
spelled-keys key spelling same [] = refl
spelled-keys key spelling same (c ∷ cs) = λ i. same c i ∷ spelled-keys key spelling same cs i

-- if each content's key is its spelling alone, a key is first at the same place in contents and spellings
pub first_spelled : {C : Type 0} (key : C → Key) (spelling : C → List ℕ) →
    ((c : C) → key c ≡ spelling c ∷ []) → (cs : List C) (k : Key) →
    first key cs k ≡ first (λ w. w ∷ []) (map spelling cs) k
first_spelled key spelling same cs k = ap (λ keys. first_of keys k) (spelled-keys key spelling same cs)
