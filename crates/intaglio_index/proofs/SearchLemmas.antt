-- What a search along a bucket finds.
use Rattle.intaglio_index.proofs.Names.{common_steps, MatchOption, IfSome, AllByRecursion, eqb-false, true≢false, eqb_tells, get_or_default, recursion_from_All, Event, step, Head, Placed, chain_from, head_of, first_symbol_with, IsEntry, BeginsAtOrAbove, IsPredecessor, IsFound, IsPassed, IsBehind, IsReached, IsAt, IsHead, IsWord}
use Rattle.std.proofs.Common.{cond, eqb, ◌≡◌, ◌≢◌, ◌⊎◌, ℕ, ◌+◌, ◌*◌, ◌/◌, ◌%◌, ◌<◌, ◌≤◌, Bool, true, false, List, [], ◌∷◌, ◌++◌, length, get_or, replicate, Option, Some, None, refl, sym, ap, ◌∙◌, arith, inl, inr, append_assoc, length-append}
use Rattle.std.specs.List.{IsDistinct}
use Rattle.intaglio_index.specs.Placed.{chain}
use Rattle.intaglio_index.proofs.ChainLemmas.{Each-so, Each-right, Each-append, chain-complete, chain-entry, chain-entries, chain-in-order, entry-split, InOrder}
use Rattle.intaglio_index.proofs.HeadLemmas.{IsOccupied, first-within, second-within}
use Rattle.intaglio_index.proofs.Words.{same-number, high-below, high-above, block-below, below-block, word-same}
use Rattle.intaglio_index.proofs.WalkLemmas.{standing, moves, distinct}

-- a hash that no entry of its bucket has was not placed
pub absent-on : (v : Placed) (hash : ℕ) →
    AllByRecursion (λ (e : ℕ × ℕ). e.1 ≢ hash) (chain v (hash % v.count)) →
    AllByRecursion (λ placed. placed ≢ hash) v.hashes
unfolding chain
absent-on v hash none = recursion_from_All (λ placed. placed ≢ hash) v.hashes (λ i d l e.
    (let at : get_or v.hashes i 0 ≡ hash = get_or_default v.hashes i 0 d l ∙ e in
    let found = chain-complete v.count (hash % v.count) v.hashes i l (rw at refl) in
    let parts = entry-split (chain_from v.count (hash % v.count) 0 [] v.hashes) i found in
    let entry = (chain-entry v.count _ v.hashes _ _ _ parts.3).0 in
    let other = (Each-right _ parts.0 (parts.1 ∷ parts.2) (rw parts.3 at none)).0 in
    other (sym (entry.1 0) ∙ ap (λ s. get_or v.hashes s 0) parts.4 ∙ at)))

-- an entry with this symbol and this hash is the pair of them
pub entry-is : (e : ℕ × ℕ) (s h : ℕ) → e.0 ≡ s → e.1 ≡ h → e ≡ (s, h)
entry-is e s h p q = rw (← p, ← q) refl

-- the steps of a front, one for each entry and one more, with another one are those of a front longer by one
steps-push : (old now new : List Event) (front : List (ℕ × ℕ)) (e : ℕ × ℕ) →
    now ≡ old ++ replicate (length front + 1) step → new ≡ now ++ step ∷ [] →
    new ≡ old ++ replicate (length (front ++ e ∷ []) + 1) step
steps-push old now new front e events more = grind (arith, common_steps)

-- the search is at the bucket's first symbol
pub begins : {h : ℕ} {path : List (ℕ × ℕ)} {old now : List Event} {candidate : Option (ℕ × ℕ)} →
    now ≡ old ++ step ∷ [] → candidate ≡ head_of path → IsReached h path old now candidate
begins {path = path} events next =
    record {
      walk = record { front = []; rest = path; split = refl; next = next; smaller = tt };
      events = events;
    }

-- behind the first two
pub begins-third : {h : ℕ} {path : List (ℕ × ℕ)} {second : ℕ} (behind : IsBehind h path second)
    {old now : List Event} {candidate : Option (ℕ × ℕ)} →
    ((before rest : List (ℕ × ℕ)) → path ≡ before ++ (second, behind.hash) ∷ rest → candidate ≡ head_of rest) →
    now ≡ old ++ replicate 3 step → IsReached h path old now candidate
begins-third {second = second} behind after events = record {
  walk = record {
    front = behind.first ∷ (second, behind.hash) ∷ [];
    rest = behind.rest;
    split = behind.split;
    next = after (behind.first ∷ []) behind.rest behind.split;
    smaller = (behind.first_smaller, (behind.smaller, tt));
  };
  events = events;
}

-- the second is a placed symbol
pub second-placed : (v : Placed) (h : ℕ) {second : ℕ} (behind : IsBehind h (chain v (h % v.count)) second) →
    second < length v.hashes
second-placed v h behind = (rw behind.split at (chain-entries v (h % v.count))).1.0.0

-- if a greater hash is next, or nothing is left, none of the entries that are left has the hash
others : (h : ℕ) (candidate : Option (ℕ × ℕ)) (rest : List (ℕ × ℕ)) → candidate ≡ head_of rest →
    InOrder rest → MatchOption candidate (Unit {0}) (λ e. h < e.1) → AllByRecursion (λ (e : ℕ × ℕ). e.1 ≢ h) rest
others h candidate [] next order m = tt
others h candidate (x ∷ xs) next order m =
    let above : h < x.1 = rw next at m in
    ((λ q. omega arith), Each-so _ _ xs order.0 (λ e l q. omega arith))

-- if hashes don't decrease along a list, they don't along what stands behind its front
order-right : (front rest : List (ℕ × ℕ)) → InOrder (front ++ rest) → InOrder rest
order-right [] rest o = o
order-right (x ∷ front) rest o = order-right front rest o.1

module _ {h : ℕ} {path : List (ℕ × ℕ)} {old now : List Event} where
  -- the search goes on past a symbol with a smaller hash
  pub goes-on : {s k : ℕ} {new : List Event} {next : Option (ℕ × ℕ)} →
      IsReached h path old now (Some (s, k)) → k < h → new ≡ now ++ step ∷ [] →
      ((before behind : List (ℕ × ℕ)) → path ≡ before ++ (s, k) ∷ behind → next ≡ head_of behind) →
      IsReached h path old new next
  goes-on {s} {k} {new} at l more after =
      let on = moves at.walk l after in
      record { walk = on.0; events = rw on.1 (steps-push old now new at.walk.front (s, k) at.events more) }

  -- at a symbol with the hash it has found it
  pub finds : {s k : ℕ} → IsReached h path old now (Some (s, k)) → h ≡ k → IsFound h path old now s
  finds {s} at same =
      let rest = standing at.walk in
      record {
        front = at.walk.front;
        behind = rest.0;
        split = rest.1 ∙ ap (λ n. at.walk.front ++ (s, n) ∷ rest.0) (sym same);
        smaller = at.walk.smaller;
        events = at.events;
      }

  -- wherever it is, it has made few steps
  pub passes : {candidate : Option (ℕ × ℕ)} → IsReached h path old now candidate → IsPassed path old now
  passes at =
      record {
        more = length at.walk.front;
        few = omega (arith, ap length at.walk.split, length-append at.walk.front at.walk.rest);
        events = at.events;
      }

  -- at the end, or at a greater hash, no symbol of the bucket has the hash
  pub ends : {candidate : Option (ℕ × ℕ)} → IsReached h path old now candidate → InOrder path →
      MatchOption candidate (Unit {0}) (λ e. h < e.1) → AllByRecursion (λ (e : ℕ × ℕ). e.1 ≢ h) path
  ends {candidate} at order m =
      let behind = others h candidate at.walk.rest at.walk.next
      (order-right at.walk.front at.walk.rest (rw at.walk.split at order)) m in
      let front = Each-so _ _ at.walk.front at.walk.smaller (λ e l q. omega arith) in
      rw at.walk.split (Each-append _ at.walk.front at.walk.rest front behind)

-- if P implies Q and holds of a symbol that may be there, so does Q
pub each-some : (P Q : ℕ → Type 0) (o : Option ℕ) → ((s : ℕ) → P s → Q s) → IfSome o P → IfSome o Q
each-some P Q None f h = tt
each-some P Q (Some s) f h = f s h

-- what the head tells of a hash of its bucket
module _ (v : Placed) (h size : ℕ) (head : Head) (some : 0 < size) where
  differs : (e : ℕ × ℕ) (word : ℕ) → IsWord size e word → word / size ≢ h / size → e.1 ≢ h
  differs e word is other same = other (is.0 ∙ ap (λ n. n / size) same)

  -- that no symbol has it
  none-by-words : (e : ℕ × ℕ) (es : List (ℕ × ℕ)) → chain v (h % v.count) ≡ e ∷ es → IsHead size head (e ∷ es) →
      head.first / size ≢ h / size → head.second / size ≢ h / size →
      (h < head.second) ⊎ ((head.second ≤ h) × (head.first ≡ head.second)) →
      AllByRecursion (λ (x : ℕ × ℕ). x.1 ≢ h) (e ∷ es)
  unfolding IsDistinct
  none-by-words e [] split is first second end = (differs e head.first is.0 first, tt)
  none-by-words e (f ∷ fs) split is first second (inr same) =
      absurd (eqb-false e.0 f.0 (rw split at (distinct v (h % v.count))).0.0
      (sym is.0.1 ∙ ap (λ w. w % size) same.1 ∙ is.1.1))
  none-by-words e (f ∷ fs) split is first second (inl less) =
      let blocks = below-block size some h head.second less (λ q. second (sym q)) in
      let above : h < f.1 = block-below size some h f.1 (omega (arith, blocks, is.1.0)) in
      let rest = Each-so _ (λ (x : ℕ × ℕ). x.1 ≢ h) fs
      (rw split at (chain-in-order v (h % v.count))).1.0 (λ x l q. omega arith) in
      (differs e head.first is.0 first, ((λ q. omega arith), rest))

  -- that the first two have smaller ones
  both-below : (e : ℕ × ℕ) (es : List (ℕ × ℕ)) → chain v (h % v.count) ≡ e ∷ es → IsHead size head (e ∷ es) →
      head.second / size ≢ h / size → head.second ≤ h → head.first ≢ head.second →
      IsBehind h (chain v (h % v.count)) (head.second % size)
  both-below e [] split is second at_most other =
      absurd (other (word-same size some e head.first head.second is.0 is.1))
  both-below e (f ∷ fs) split is second at_most other =
      let differ : head.second ≢ h = λ q. second (ap (λ n. n / size) q) in
      let blocks = below-block size some head.second h (omega arith) second in
      let below : f.1 < h = block-below size some f.1 h (omega (arith, blocks, is.1.0)) in
      let order = (rw split at (chain-in-order v (h % v.count))).0.0 in
      rw is.1.1 record {
        first = e;
        hash = f.1;
        rest = fs;
        split = split;
        first_smaller = omega (arith, order, below);
        smaller = below;
      }

  -- an entry of the bucket with the same high bits has the hash, if that was read or
  -- if the bucket tells the other bits
  sure-of : (e : ℕ × ℕ) → IsEntry v.count (h % v.count) v.hashes e → e.1 / size ≡ h / size →
      (get_or v.hashes e.0 0 ≡ h) ⊎ (v.count ≡ size) → e.1 ≡ h
  sure-of e entry high (inl read) = sym (entry.1 0) ∙ read
  sure-of e entry high (inr exact) = same-number size some e.1 h (rw exact at entry.2) high

  -- that it is the second one's
  second-found : (e : ℕ × ℕ) (es : List (ℕ × ℕ)) → chain v (h % v.count) ≡ e ∷ es → IsHead size head (e ∷ es) →
      head.first / size ≢ h / size → head.second / size ≡ h / size →
      (get_or v.hashes (head.second % size) 0 ≡ h) ⊎ (v.count ≡ size) → (old new : List Event) →
      new ≡ old ++ replicate 2 step → IsFound h (chain v (h % v.count)) old new (head.second % size)
  second-found e [] split is first second sure old new events = absurd (first (is.0.0 ∙ sym is.1.0 ∙ second))
  second-found e (f ∷ fs) split is first second sure old new events =
      let entry = (rw split at (chain-entries v (h % v.count))).1.0 in
      let same = sure-of f entry (sym is.1.0 ∙ second) (rw is.1.1 at sure) in
      let order = (rw split at (chain-in-order v (h % v.count))).0.0 in
      rw is.1.1 record {
        front = e ∷ [];
        behind = fs;
        split = split ∙ ap (λ n. e ∷ (f.0, n) ∷ fs) same;
        smaller = (omega (arith, order, same, differs e head.first is.0 first), tt);
        events = events;
      }

-- the symbol of an entry, if there is one with this hash
abbrev with_hash : ℕ → Option (ℕ × ℕ) → Option ℕ
with_hash h None = None
with_hash h (Some e) = cond (eqb e.1 h) (Some e.0) None

-- the first symbol with a hash is told by the head
pub next-with : (candidate : Option (ℕ × ℕ)) (behind : List (ℕ × ℕ)) (h : ℕ) → candidate ≡ head_of behind →
    first_symbol_with h behind ≡ with_hash h candidate
next-with candidate [] h e = rw e refl
next-with candidate (x ∷ xs) h e = rw e refl

-- an entry's symbol was placed, with the entry's hash
pub entry-placed : (v : Placed) (b s h : ℕ) (before behind : List (ℕ × ℕ)) →
    chain v b ≡ before ++ (s, h) ∷ behind → (s < length v.hashes) × (get_or v.hashes s 0 ≡ h)
unfolding chain
entry-placed v b s h before behind split =
    let entry = (chain-entry v.count b v.hashes _ _ _ split).0 in (entry.0, entry.1 0)

-- steps one after the other
pub two-steps : (old : List Event) {a b : List Event} → a ≡ old ++ step ∷ [] → b ≡ a ++ step ∷ [] →
    b ≡ old ++ replicate 2 step
two-steps old e f = rw (f, e, append_assoc) refl

-- a step after a step after a step are three steps
pub three-steps : (old : List Event) {a b d : List Event} → a ≡ old ++ step ∷ [] → b ≡ a ++ step ∷ [] →
    d ≡ b ++ step ∷ [] → d ≡ old ++ replicate 3 step
three-steps old e f g = rw (g, f, e, append_assoc, append_assoc) refl

-- the head of a hash's bucket, with the word of it that agrees with the hash, if one does
pub record IsRead (v : Placed) (h size : ℕ) (head : Head) (word : ℕ) : Type 0 where
  pub some : 0 < size
  pub occupied : IsOccupied v (h % v.count) size head
  pub first : head.first / size ≡ h / size → word ≡ head.first
  pub second : head.first / size ≢ h / size → word ≡ head.second

module _ {v : Placed} {h size : ℕ} {head : Head} {word : ℕ} (read : IsRead v h size head word) where
  -- the word is that of a placed symbol
  pub word-within : word % size < length v.hashes
  word-within = elim (eqb_tells (head.first / size) (h / size)) [
    | inl same ↦ rw (read.first same.1) (first-within read.occupied)
    | inr other ↦ rw (read.second other.1) (second-within read.occupied)
  ]

  -- where it doesn't agree, neither word does
  module _ (agrees : Bool) (unmet : agrees ≡ false) (tells : word / size ≡ h / size → agrees ≡ true) where
    first-other : head.first / size ≢ h / size
    first-other q = true≢false (sym (tells (ap (λ w. w / size) (read.first q) ∙ q)) ∙ unmet)

    second-other : head.second / size ≢ h / size
    second-other q = true≢false (sym (tells (ap (λ w. w / size) (read.second first-other) ∙ q)) ∙ unmet)

    -- and none has the hash, if that is below the second word, or if there is no second symbol
    pub head-absent : (h < head.second) ⊎ ((head.second ≤ h) × (head.first ≡ head.second)) →
        AllByRecursion (λ placed. placed ≢ h) v.hashes
    head-absent end = absent-on v h (rw read.occupied.split (none-by-words v h size head read.some _ _
        read.occupied.split read.occupied.is first-other second-other end))

    -- otherwise the first two have smaller ones
    pub head-behind : head.second ≤ h → head.first ≢ head.second →
        IsBehind h (chain v (h % v.count)) (head.second % size)
    head-behind = both-below v h size head read.some _ _ read.occupied.split read.occupied.is second-other

  -- where it does, and is sure to be the hash, its symbol is the first with the hash
  module _ (high : word / size ≡ h / size) (sure : (get_or v.hashes (word % size) 0 ≡ h) ⊎ (v.count ≡ size))
      (old new : List Event) where
    -- after one step, if it is the first word
    pub word-first : word ≡ head.first → new ≡ old ++ step ∷ [] →
        IsFound h (chain v (h % v.count)) old new (word % size)
    word-first is events =
        let o = read.occupied in
        let symbol : word % size ≡ o.e.0 = rw is o.is.0.1 in
        let same = sure-of v h size head read.some o.e (rw o.split at (chain-entries v (h % v.count))).0
        (sym o.is.0.0 ∙ rw is at high) (rw symbol at sure) in
        rw symbol record {
          front = [];
          behind = o.es;
          split = o.split ∙ ap (λ n. (o.e.0, n) ∷ o.es) same;
          smaller = tt;
          events = events;
        }

    -- after two, if it is the second
    pub word-second : word ≢ head.first → new ≡ old ++ replicate 2 step →
        IsFound h (chain v (h % v.count)) old new (word % size)
    word-second other events =
        let first : head.first / size ≢ h / size = λ q. other (read.first q) in
        let is = read.second first in
        rw is (second-found v h size head read.some _ _ read.occupied.split read.occupied.is first
        (rw is at high) (rw is at sure) old new events)

-- a hash that was read
pub hash-read : (hashes : List ℕ) (s i hash : ℕ) → s < length hashes → hash ≡ get_or hashes i hash → i ≡ s →
    get_or hashes s 0 ≡ hash
hash-read hashes s i hash within read same = grind (arith, common_steps)

-- where the number of buckets is a power of two, the words of a bucket are in the order of its hashes
module _ (v : Placed) (h size : ℕ) (head : Head) (some : 0 < size) (exact : v.count ≡ size) where
  above : (e : ℕ × ℕ) (word : ℕ) → IsEntry v.count (h % v.count) v.hashes e → IsWord size e word →
      h / size * size ≤ word → h ≤ e.1
  above e word entry is l = high-below size some e.1 h word (rw exact at entry.2) is.0 l

  begins-at : (e : ℕ × ℕ) (es : List (ℕ × ℕ)) → chain v (h % v.count) ≡ e ∷ es → IsHead size head (e ∷ es) →
      h / size * size ≤ head.second → BeginsAtOrAbove h es
  begins-at e [] split is l = tt
  begins-at e (f ∷ fs) split is l =
      above f head.second (rw split at (chain-entries v (h % v.count))).1.0 is.1 l

  -- a walk stands behind the second one
  stands : (e : ℕ × ℕ) (es : List (ℕ × ℕ)) → chain v (h % v.count) ≡ e ∷ es → IsHead size head (e ∷ es) →
      (candidate : Option (ℕ × ℕ)) → e.1 < h → head.second < h / size * size →
      ((b hash : ℕ) (before behind : List (ℕ × ℕ)) →
      chain v b ≡ before ++ (head.second % size, hash) ∷ behind → candidate ≡ head_of behind) →
      IsAt h (chain v (h % v.count)) (Some (head.second % size)) candidate
  stands e [] split is candidate below second after =
      let next = rw is.1.1 at after in
      rw is.1.1 record {
        walk = record {
          front = e ∷ [];
          rest = [];
          split = split;
          next = next (h % v.count) e.1 [] [] split;
          smaller = (below, tt);
        };
        last_is = ([], e.1, refl);
      }
  stands e (f ∷ fs) split is candidate below second after =
      let next = rw is.1.1 at after in
      rw is.1.1 record {
        walk = record {
          front = e ∷ f ∷ [];
          rest = fs;
          split = split;
          next = next (h % v.count) f.1 (e ∷ []) fs split;
          smaller = (below, (high-above size some f.1 h head.second is.1.0 second, tt));
        };
        last_is = (e ∷ [], f.1, refl);
      }

  module _ (o : IsOccupied v (h % v.count) size head) where
    -- if the first word isn't below the hash's high bits, the bucket begins at the hash or above it
    pub begins-above : h / size * size ≤ head.first → BeginsAtOrAbove h (chain v (h % v.count))
    begins-above l =
        rw o.split (above o.e head.first (rw o.split at (chain-entries v (h % v.count))).0 o.is.0 l)

    -- the first one alone has a smaller hash
    pub first-precedes : head.first < h / size * size → h / size * size ≤ head.second →
        IsPredecessor h (chain v (h % v.count)) (head.first % size)
    first-precedes first second = rw o.is.0.1 record {
      front = [];
      hash = o.e.1;
      behind = o.es;
      split = o.split;
      smaller = (high-above size some o.e.1 h head.first o.is.0.0 first, tt);
      others = begins-at o.e o.es o.split o.is second;
    }

    -- if both words are below them, a walk behind the second symbol has passed smaller hashes alone
    pub behind-second : (candidate : Option (ℕ × ℕ)) → head.first < h / size * size →
        head.second < h / size * size → ((b hash : ℕ) (before behind : List (ℕ × ℕ)) →
        chain v b ≡ before ++ (head.second % size, hash) ∷ behind → candidate ≡ head_of behind) →
        IsAt h (chain v (h % v.count)) (Some (head.second % size)) candidate
    behind-second candidate first second after =
        stands o.e o.es o.split o.is candidate (high-above size some o.e.1 h head.first o.is.0.0 first) second after
