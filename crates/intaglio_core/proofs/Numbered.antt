-- A search that compares the contents with one hash, by their numbers.
use Rattle.intaglio_core.proofs.Names.{All-push, common_steps, ◌≡◌, ◌≢◌, ℕ, zero, suc, ◌+◌, ◌%◌, ◌<◌, ◌≤◌, ◌==◌, Bool, true, false, cond, List, [], ◌∷◌, ◌++◌, replicate, length, map, filter, get_or, Some, None, refl, sym, ap, ◌∙◌, subst, arith, append_assoc, append-nil, length-append, inl, inr, All, AllPairs, Contains, cases_lt, eq-eqb, get_or-map, get_or_default, length-map, map-append, get_or_append_left, get_or-append_seam, All-cons, All-contains, All-map, All-nil, Contains-append_right, IsDistinct-from_AllPairs, is_member-Decides, length-le_from_is_member, Key, IsCompared, Event, hashed, compared, step, first_of, key_eq, AreDistinct, hashed_keys, sought_keys, stored_keys, step_count, placed_count, bucket_keys, IsSearchCost, IsRecorded, Adds, first-none, first-some, key_eq-decides}
use Rattle.std.specs.Cmp.{IsEquivalence}
use Rattle.std.specs.Cmp.Lexicographic.{lists_equiv, nat_list_eq_equiv}

-- what a list contains is still in it when an item is put in front, or none is
contains-by : {X : Type 0} (b : Bool) (x y : X) (xs : List X) → Contains xs y →
    Contains (cond b (x ∷ xs) xs) y
contains-by true x y xs c = Contains-append_right (x ∷ []) xs y c
contains-by false x y xs c = c

-- an element that passes a test is one of those that do
pub contains-filter : {X : Type 0} (p : X → Bool) (x : X) (xs : List X) (i : ℕ) → p x ≡ true → i < length xs →
    get_or xs i x ≡ x → Contains (filter p xs) x
contains-filter p x [] i holds l e = absurd (omega (arith, l))
contains-filter p x (y ∷ ys) zero holds l e =
    let passes : p y ≡ true = ap p e ∙ holds in
    rw passes (zero, omega arith, e)
contains-filter p x (y ∷ ys) (suc i) holds l e =
    contains-by (p y) y x (filter p ys) (contains-filter p x ys i holds (omega (arith, l)) e)

-- the comparison of keys is an equivalence
key_eq-equivalence : IsEquivalence key_eq
key_eq-equivalence = lists_equiv nat_list_eq_equiv

-- a comparison with the content of a number, by their keys
pub compared-as : {C : Type 0} (key : C → Key) (contents : List C) (s : ℕ) (k : Key) (result : Bool)
    (now later : List Event) → s < length contents → IsCompared key contents s k result now later
    → let x = get_or (map key contents) s [] in
    (later ≡ now ++ compared k x ∷ []) × (result ≡ true → x ≡ k) × (result ≡ false → x ≢ k)
compared-as key contents s k result now later l is = grind (arith, common_steps)

module _ (keys : List Key) (k : Key) where
  -- the key with this number
  abbrev pub key_at : ℕ → Key
  key_at i = get_or keys i []

  -- what is recorded when the contents of these numbers were compared, and none was equal
  abbrev walked : List ℕ → List Event
  walked [] = []
  walked (i ∷ is) = compared k (key_at i) ∷ step ∷ walked is

  -- and so many steps before
  abbrev spent : ℕ → List ℕ → List Event
  spent n is = replicate n step ++ walked is

  -- a search that has passed so many others, has compared some of the numbers, and has others left
  pub record IsSearching (passed : ℕ) (numbers left : List ℕ) (start now : List Event) : Type 0 where
    pub seen : List ℕ
    pub split : numbers ≡ seen ++ left
    pub others : All (λ i. key_at i ≢ k) seen
    pub events : now ≡ start ++ spent (passed + 1) seen

  -- at the beginning of a search none was compared
  pub begins : (passed : ℕ) (numbers : List ℕ) (start now : List Event) →
      now ≡ start ++ replicate (passed + 1) step → IsSearching passed numbers numbers start now
  begins passed numbers start now e = record {
    seen = [];
    split = refl;
    others = All-nil (λ i. key_at i ≢ k);
    events = e ∙ ap (λ es. start ++ es) (sym (append-nil (replicate (passed + 1) step)));
  }

  spent-push : (n : ℕ) (is : List ℕ) (s : ℕ) → spent n (is ++ s ∷ []) ≡ spent n is ++ compared k (key_at s)
      ∷ step ∷ []
  spent-push zero [] s = refl
  spent-push zero (i ∷ is) s = ap (λ es. compared k (key_at i) ∷ step ∷ es) (spent-push zero is s)
  spent-push (suc n) is s = ap (λ es. step ∷ es) (spent-push n is s)

  -- it goes on by a comparison with another key, and a step
  pub goes-on : (passed : ℕ) (numbers rest : List ℕ) (s : ℕ) (start now middle later : List Event) →
      IsSearching passed numbers (s ∷ rest) start now → key_at s ≢ k
      → middle ≡ now ++ compared k (key_at s) ∷ [] → later ≡ middle ++ step ∷ [] →
      IsSearching passed numbers rest start later
  goes-on passed numbers rest s start now middle later is other compares steps =
      let events = spent (passed + 1) is.seen in
      let more : start ++ spent (passed + 1) (is.seen ++ s ∷ [])
      ≡ ((start ++ events) ++ compared k (key_at s) ∷ []) ++ step ∷ [] =
      ap (λ es. start ++ es) (spent-push (passed + 1) is.seen s)
      ∙ sym (append_assoc (start ++ events) (compared k (key_at s) ∷ []) (step ∷ [])
      ∙ append_assoc start events (compared k (key_at s) ∷ step ∷ [])) in
      record {
        seen = is.seen ++ s ∷ [];
        split = is.split ∙ sym (append_assoc is.seen (s ∷ []) rest);
        others = All-push (λ i. key_at i ≢ k) is.seen s is.others other;
        events = rw more (rw (← is.events, ← compares) steps);
      }

  -- what these events record before others: hashings, sought keys, stored keys, steps and placements
  recorded : (n : ℕ) (is : List ℕ) (last : List Event) → let all = spent n is ++ last in
      (hashed_keys all ≡ hashed_keys last)
      × (All (λ x. x ≡ k) (sought_keys last) → All (λ x. x ≡ k) (sought_keys all))
      × (stored_keys all ≡ map key_at is ++ stored_keys last)
      × (step_count all ≡ n + length is + step_count last) × (placed_count all ≡ placed_count last)
  recorded zero [] last = (refl, λ all. all, refl, omega arith, refl)
  recorded zero (i ∷ is) last = let r = recorded zero is last in
      (r.0, λ all. All-cons (λ x. x ≡ k) k _ refl (r.1 all), ap (λ ks. key_at i ∷ ks) r.2, omega arith, r.4)
  recorded (suc n) is last = let r = recorded n is last in (r.0, r.1, r.2, omega (arith, r.3), r.4)

module _ (hash : Key → ℕ) (keys : List Key) (k : Key) where
  -- the contents with the hash of the key, by their numbers: each once, and no other
  pub record AreEqualHashes (numbers : List ℕ) : Type 0 where
    pub apart : AllPairs (λ i j. i ≢ j) numbers
    pub each : All (λ i. (i < length keys) × (hash (key_at keys k i) ≡ hash k)) numbers
    pub every : (i : ℕ) → i < length keys → hash (key_at keys k i) ≡ hash k → Contains numbers i

  module _ (distinct : AreDistinct keys) (numbers : List ℕ) (equal : AreEqualHashes numbers) where
    -- different numbers have different keys
    keys-apart : (i j : ℕ) → i < length keys → j < length keys → i ≢ j → key_at keys k i ≢ key_at keys k j
    keys-apart i j li lj n = elim (cases_lt i j) [
      | inl low ↦ distinct i j [] low lj
      | inr high ↦ λ e. distinct j i [] (omega (arith, high, n)) li (sym e)
    ]

    all-apart : AreDistinct (map (key_at keys k) numbers)
    all-apart i j d l lj =
        let size = length-map numbers (key_at keys k) in
        let jn : j < length numbers = omega (arith, lj, size) in
        let in_ : i < length numbers = omega (arith, l, lj, size) in
        let a = equal.each i 0 in_ in
        let b = equal.each j 0 jn in
        rw (get_or-map (key_at keys k) numbers i 0 d in_, get_or-map (key_at keys k) numbers j 0 d jn)
        (keys-apart (get_or numbers i 0) (get_or numbers j 0) a.0 b.0 (equal.apart i j 0 l jn))

    all-within : (places : ℕ) → All (Contains (bucket_keys hash places keys k)) (map (key_at keys k) numbers)
    all-within places =
        All-map (Contains (bucket_keys hash places keys k)) (key_at keys k) numbers
        (λ at d l.
        (let is = equal.each at d l in
        let i = get_or numbers at d in
        let same : ((hash (key_at keys k i) % places) == (hash k % places)) ≡ true =
        eq-eqb (hash (key_at keys k i) % places) (hash k % places) (ap (λ h. h % places) is.1) in
        contains-filter (λ x. (hash x % places) == (hash k % places)) (key_at keys k i) keys i same is.0
        (sym (get_or_default keys i [] (key_at keys k i) is.0))))

    -- so the bucket of the key has as many keys at least
    pub none-passed : (places : ℕ) → 0 + length numbers ≤ length (bucket_keys hash places keys k)
    none-passed places =
        let found =
        length-le_from_is_member key_eq-equivalence (map (key_at keys k) numbers)
        (bucket_keys hash places keys k)
        (IsDistinct-from_AllPairs key_eq-decides (map (key_at keys k) numbers) all-apart)
        (λ q there. (is_member-Decides key_eq-decides (bucket_keys hash places keys k) q).1
        (All-contains (Contains (bucket_keys hash places keys k)) (map (key_at keys k) numbers) q
        (all-within places) ((is_member-Decides key_eq-decides (map (key_at keys k) numbers) q).0 there)))
        in
        omega (arith, found, length-map numbers (key_at keys k))

    module _ (passed places : ℕ)
        (few : passed + length numbers ≤ length (bucket_keys hash places keys k)) where
      cost : (seen met tail : List ℕ) (last : List Event) → numbers ≡ met ++ tail →
          map (key_at keys k) seen ++ stored_keys last ≡ map (key_at keys k) met → hashed_keys last ≡ []
          → All (λ x. x ≡ k) (sought_keys last) → length seen + step_count last ≤ length numbers →
          placed_count last ≡ 0
          → IsSearchCost hash k (bucket_keys hash places keys k)
          (hashed k ∷ (spent keys k (passed + 1) seen ++ last))
      cost seen met tail last split stored none sought steps placements =
          let r = recorded keys k (passed + 1) seen last in
          let is = r.2 ∙ stored in
          let all = ap (map (key_at keys k)) split ∙ map-append (key_at keys k) met tail in
          let sizes = ap length all ∙ length-append (map (key_at keys k) met) (map (key_at keys k) tail) in
          let left : (i : ℕ) (d : Key) → i < length (map (key_at keys k) met) →
          get_or (map (key_at keys k) numbers) i d ≡ get_or (map (key_at keys k) met) i d =
          λ i d l. ap (λ ks. get_or ks i d) all
          ∙ get_or_append_left (map (key_at keys k) met) (map (key_at keys k) tail) d i l in
          record {
            hashings = ap (λ ks. k ∷ ks) (r.0 ∙ none);
            sought = r.1 sought;
            once = rw is (λ i j d l lj.
                rw (← left i d (omega arith), ← left j d lj) (all-apart i j d l (omega arith)));
            within = rw is (λ i d l. rw (← left i d l) (all-within places i d (omega arith)));
            equal_hashes = rw is (λ i d l. rw (← left i d l)
                (All-map (λ x. hash x ≡ hash k) (key_at keys k) numbers (λ at d l. (equal.each at d l).1) i
                d (omega arith)));
            steps = omega (arith, steps, r.3, few);
            placements = r.4 ∙ placements;
          }

      -- all were compared, and none has the key
      pub ends : (start now : List Event) → IsSearching keys k passed numbers [] start now
          → (None ≡ first_of keys k)
          × Adds start now (λ cost. IsSearchCost hash k (bucket_keys hash places keys k) (hashed k ∷ cost)
          × IsRecorded k (first_of keys k) (hashed k ∷ cost))
      ends start now is =
          let all : numbers ≡ is.seen = is.split ∙ append-nil is.seen in
          let none : first_of keys k ≡ None =
          first-none keys k (λ j l same. All-contains (λ i. key_at keys k i ≢ k) is.seen j is.others
          (subst (λ ns. Contains ns j) all (equal.every j l (ap hash same))) same) in
          let costs =
          cost is.seen is.seen [] [] (all ∙ sym (append-nil is.seen))
          (append-nil (map (key_at keys k) is.seen)) refl (All-nil (λ x. x ≡ k))
          (omega (arith, ap length all)) refl in
          let events = spent keys k (passed + 1) is.seen in
          let last : events ++ [] ≡ events = append-nil events in
          let stepped : 1 ≤ step_count (events ++ []) =
          omega (arith, (recorded keys k (passed + 1) is.seen []).3) in
          let marks : IsRecorded k (first_of keys k) (hashed k ∷ events) =
          rw none (record { steps = rw last at stepped; comparison = tt }) in
          (sym none, (events, is.events, (rw last at costs, marks)))

      -- the content of the next number has the key
      pub finds : (s : ℕ) (rest : List ℕ) (start now later : List Event) →
          IsSearching keys k passed numbers (s ∷ rest) start now → key_at keys k s ≡ k →
          later ≡ now ++ compared k (key_at keys k s) ∷ []
          → (Some s ≡ first_of keys k)
          × Adds start later (λ cost. IsSearchCost hash k (bucket_keys hash places keys k) (hashed k ∷ cost)
          × IsRecorded k (first_of keys k) (hashed k ∷ cost))
      finds s rest start now later is same compares =
          let n = length is.seen in
          let size = ap length is.split ∙ length-append is.seen (s ∷ rest) in
          let here = ap (λ (ns : List ℕ). get_or ns n 0) is.split ∙ get_or-append_seam is.seen s rest 0 in
          let within : s < length keys =
          subst (λ i. i < length keys) here (equal.each n 0 (omega (arith, size))).0 in
          let found : first_of keys k ≡ Some s =
          first-some keys k s within same (λ j l e. distinct j s [] l within (e ∙ sym same)) in
          let split = is.split ∙ sym (append_assoc is.seen (s ∷ []) rest) in
          let last = compared k (key_at keys k s) ∷ [] in
          let costs =
          cost is.seen (is.seen ++ s ∷ []) rest last split
          (sym (map-append (key_at keys k) is.seen (s ∷ []))) refl
          (All-cons (λ x. x ≡ k) k [] refl (All-nil (λ x. x ≡ k))) (omega (arith, size)) refl in
          let events = spent keys k (passed + 1) is.seen in
          let steps = (recorded keys k (passed + 1) is.seen last).3 in
          let marks : IsRecorded k (first_of keys k) (hashed k ∷ (events ++ last)) = rw found (record {
            steps = omega (arith, steps);
            comparison = (hashed k ∷ events, [], ap (λ x. hashed k ∷ (events ++ compared k x ∷ [])) same);
          }) in
          (sym found, (events ++ last, rw (compares, is.events) (append_assoc start events last), (costs, marks)))
