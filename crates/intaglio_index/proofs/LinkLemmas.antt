-- Paths of links.
use Rattle.intaglio_index.proofs.Names.{common_steps, option_map, AllByRecursion, eqb-false, eq-eqb, ne_eqb, eqb_tells, nil_from_length, get_or-set_same, get_or-set_other, get_or_append_left, get_or_push, get_or-take, length-set, length-take-le, Symbol, chain_from, head_of, first_symbol_of, symbols_of, BeginsAtOrAbove, IsPredecessor, IsEntry, insert_sorted, IsPath, IsThread, IsLinked, entry_of, target_of, next_of}
use Rattle.std.proofs.Common.{◌≡◌, ◌≢◌, ℕ, ◌+◌, ◌<◌, ◌≤◌, ◌%◌, ◌^◌, List, [], ◌∷◌, ◌++◌, length, false, refl, sym, ap, ◌∙◌, arith, eqb, Option, Some, None, unwrap_or, get_or, set, append_assoc, length-append, inl, inr, take}
use Rattle.std.specs.List.{IsDistinct}
use Rattle.intaglio_index.proofs.ChainLemmas.{chain-grows, chain-stays, chain-each, chain-entry, symbol-at, chain-distinct, chain-complete, entry-split, unput, insert_sorted-between, put-behind, Each-so}

-- what is kept of a link: the symbol itself where there is no next one
target-kept : (s : ℕ) (next : Option Symbol) → (next ≡ Some s → ⊥) → target_of s (unwrap_or next s) ≡ next
target-kept s None other = rw (eq-eqb s s refl) refl
target-kept s (Some t) other = rw (ne_eqb t s (λ e. other (ap (λ n. Some n) e))) refl

-- an entry of a placed symbol that isn't p
abbrev IsOther : ℕ → ℕ → ℕ × ℕ → Type 0
IsOther n p e = (e.0 < n) × (e.0 ≢ p)

-- where nothing on a path is p, the path doesn't begin there
begins-elsewhere : (next : ℕ → Option Symbol) (start : Option Symbol) (n p : ℕ) (es : List (ℕ × ℕ)) →
    AllByRecursion (IsOther n p) es → IsPath next start (symbols_of es) → start ≡ Some p → ⊥
begins-elsewhere next start n p [] a h e = (let never : None ≡ Some p = sym h ∙ e in cc)
begins-elsewhere next start n p (x ∷ es) a h e =
    (let same : Some x.0 ≡ Some p = sym h.0 ∙ e in let q : x.0 ≡ p = cc in a.0.1 q)

-- links that stay at the path's symbols
path-kept : (next other : ℕ → Option Symbol) (start : Option Symbol) (es : List (ℕ × ℕ)) →
    AllByRecursion (λ (e : ℕ × ℕ). other e.0 ≡ next e.0) es → IsPath next start (symbols_of es) →
    IsPath other start (symbols_of es)
path-kept next other start [] a h = h
path-kept next other start (e ∷ es) a h = (h.0, rw a.0 (path-kept next other (next e.0) es a.1 h.1))

-- another path behind an entry
path-spliced : (next other : ℕ → Option Symbol) (start : Option Symbol) (front : List (ℕ × ℕ)) (e : ℕ × ℕ)
    (xs ys : List (ℕ × ℕ)) → AllByRecursion (λ (x : ℕ × ℕ). other x.0 ≡ next x.0) front →
    IsPath other (other e.0) (symbols_of ys) → IsPath next start (symbols_of (front ++ e ∷ xs)) →
    IsPath other start (symbols_of (front ++ e ∷ ys))
path-spliced next other start [] e xs ys a on h = (h.0, on)
path-spliced next other start (x ∷ front) e xs ys a on h =
    (h.0, rw a.0 (path-spliced next other (next x.0) front e xs ys a.1 on h.1))

-- the link of a symbol on the path leads on to what stands behind it
path-behind : (next : ℕ → Option Symbol) (start : Option Symbol) (front : List (ℕ × ℕ)) (e : ℕ × ℕ)
    (behind : List (ℕ × ℕ)) → IsPath next start (symbols_of (front ++ e ∷ behind)) →
    IsPath next (next e.0) (symbols_of behind)
path-behind next start [] e behind h = h.1
path-behind next start (x ∷ front) e behind h = path-behind next (next x.0) front e behind h.1

-- an entry of one bucket is in no other
in-no-other : (count b k : ℕ) (hashes : List ℕ) (p h : ℕ) → IsEntry count k hashes (p, h) → b ≢ k →
    AllByRecursion (IsOther (length hashes) p) (chain_from count b 0 [] hashes)
in-no-other count b k hashes p h entry other =
    Each-so _ _ _ (chain-each count b hashes) (λ x is. (
      is.0,
      λ q. other (sym is.2 ∙ ap (λ v. v % count) (sym (is.1 0) ∙ ap (λ s. get_or hashes s 0) q ∙ entry.1 0)
          ∙ entry.2),
    ))

-- one bucket changes
linked-changed : {count : ℕ} {hashes later : List ℕ} {links after : List Symbol} (k : ℕ) →
    IsLinked count hashes links →
    ((b : ℕ) → b ≢ k → chain_from count b 0 [] later ≡ chain_from count b 0 [] hashes) → ((b : ℕ) → b ≢ k →
    AllByRecursion (λ (e : ℕ × ℕ). next_of after e.0 ≡ next_of links e.0) (chain_from count b 0 [] hashes))
    → IsPath (next_of after) (first_symbol_of (chain_from count k 0 [] later))
    (symbols_of (chain_from count k 0 [] later))
    → length after ≡ length later → length later ≤ count → length later ≤ 2 ^ 32 → IsLinked count later after
linked-changed {links = links} {after = after} k linked others same here paired few numbered = record {
  paths = λ b. elim (eqb_tells b k) [
    | inl e ↦ rw e.1 here
    | inr n ↦ rw (others b n.1) (path-kept (next_of links) (next_of after) _ _ (same b n.1) (linked.paths b))
  ];
  paired = paired;
  few = few;
  numbered = numbered;
}

-- the entries behind one whose symbol none of them has
apart : (count b : ℕ) (hashes : List ℕ) (p : ℕ) (es : List (ℕ × ℕ)) →
    AllByRecursion (IsEntry count b hashes) es → AllByRecursion (λ s. eqb p s ≡ false) (symbols_of es) →
    AllByRecursion (IsOther (length hashes) p) es
apart count b hashes p [] a d = tt
apart count b hashes p (e ∷ es) a d =
    ((a.0.0, λ q. eqb-false p e.0 d.0 (sym q)), apart count b hashes p es a.1 d.1)

-- in a list without repeats nothing beside an entry has its symbol
beside : (count b : ℕ) (hashes : List ℕ) (front : List (ℕ × ℕ)) (e : ℕ × ℕ) (behind : List (ℕ × ℕ)) →
    AllByRecursion (IsEntry count b hashes) (front ++ e ∷ behind) →
    IsDistinct eqb (symbols_of (front ++ e ∷ behind)) →
    AllByRecursion (IsOther (length hashes) e.0) front × AllByRecursion (IsOther (length hashes) e.0) behind
unfolding IsDistinct
beside count b hashes [] e behind a d = (tt, apart count b hashes e.0 behind a.1 d.0)
beside count b hashes (x ∷ front) e behind a d =
    let rest = beside count b hashes front e behind a.1 d.1 in
    (((a.0.0, eqb-false x.0 e.0 (symbol-at (λ s. eqb x.0 s ≡ false) front e behind d.0)), rest.0), rest.1)

-- a path begins where its list does
path-leader : (next : ℕ → Option Symbol) (start : Option Symbol) (es : List (ℕ × ℕ)) →
    IsPath next start (symbols_of es) → start ≡ first_symbol_of es
path-leader next start [] h = h
path-leader next start (e ∷ es) h = h.0

-- what stands behind an entry changes nothing of where its list begins
leader-same : (front : List (ℕ × ℕ)) (e : ℕ × ℕ) (xs ys : List (ℕ × ℕ)) →
    first_symbol_of (front ++ e ∷ xs) ≡ first_symbol_of (front ++ e ∷ ys)
leader-same [] e xs ys = refl
leader-same (x ∷ front) e xs ys = refl

-- no path begins past the placed symbols
pub path-within : {P : ℕ × ℕ → Type 0} (next : ℕ → Option Symbol) {start : Option Symbol} {n : ℕ}
    (es : List (ℕ × ℕ)) → AllByRecursion P es → ((e : ℕ × ℕ) → P e → e.0 < n) →
    IsPath next start (symbols_of es) → (t : Symbol) → start ≡ Some t → t < n
path-within next [] a f h t e = (let never : Some t ≡ None = sym e ∙ h in cc)
path-within next (x ∷ es) a f h t e =
    (let same : Some t ≡ Some x.0 = sym e ∙ h.0 in let q : t ≡ x.0 = cc in omega (arith, q, f x a.0))

module _ {count : ℕ} {hashes : List ℕ} {links : List Symbol} (linked : IsLinked count hashes links) where
  -- where there are no buckets nothing is placed
  pub no-buckets : count ≡ 0 → hashes ≡ []
  no-buckets none = nil_from_length hashes (omega (arith, linked.few))

  abbrev bucket : ℕ → List (ℕ × ℕ)
  bucket b = chain_from count b 0 [] hashes

  -- the first entry of a path
  read-path : (start : Option Symbol) (b : ℕ) (es : List (ℕ × ℕ)) →
      AllByRecursion (IsEntry count b hashes) es → IsPath (next_of links) start (symbols_of es) →
      option_map (entry_of hashes) start ≡ head_of es
  read-path start b [] a h = ap (option_map (entry_of hashes)) h
  read-path start b (e ∷ es) a h = ap (option_map (entry_of hashes)) h.0 ∙ ap (λ k. Some (e.0, k)) (a.0.1 0)

  -- the first entry of a bucket
  pub first-reads : (b : ℕ) → option_map (entry_of hashes) (first_symbol_of (bucket b)) ≡ head_of (bucket b)
  first-reads b = read-path _ b (bucket b) (chain-each count b hashes) (linked.paths b)

  -- the links from its first symbol form its chain
  pub thread-of : (b : ℕ) (first : Symbol) → Some first ≡ first_symbol_of (bucket b) →
      IsThread hashes links (Some first) (bucket b)
  thread-of b first leads = rw leads record {
    path = linked.paths b;
    read = Each-so _ _ _ (chain-each count b hashes) (λ e h. (h.0, h.1 0));
    paired = linked.paired;
  }

  -- what an entry's link leads to
  behind : (b : ℕ) (front : List (ℕ × ℕ)) (e : ℕ × ℕ) (rest : List (ℕ × ℕ)) → bucket b ≡ front ++ e ∷ rest →
      IsPath (next_of links) (next_of links e.0) (symbols_of rest)
  behind b front e rest split = path-behind (next_of links) _ front e rest (rw split at (linked.paths b))

  -- that is the first of the entries behind it
  pub after-reads : (s : ℕ) (next : Option Symbol) → next ≡ next_of links s →
      (b hash : ℕ) (before rest : List (ℕ × ℕ)) → bucket b ≡ before ++ (s, hash) ∷ rest →
      option_map (entry_of hashes) next ≡ head_of rest
  after-reads s next e b hash before rest split =
      rw e (read-path _ b rest (chain-entry count b hashes _ _ _ split).1 (behind b _ _ _ split))

  -- each symbol is on the path of its bucket, so no link leads past the placed ones
  pub link-within : (s : ℕ) (t : Symbol) → s < length hashes → next_of links s ≡ Some t → t < length hashes
  link-within s t l e =
      let k : ℕ = get_or hashes s 0 % count in
      let here = entry-split (bucket k) s (chain-complete count k hashes s l refl) in
      path-within _ here.2 (chain-entry count k hashes _ _ _ here.3).1 (λ e is. is.0)
      (rw here.4 at (behind k _ _ _ here.3)) t e

  -- a bucket's first symbol is among the placed ones
  pub leader-within : (b : ℕ) (s : Symbol) → first_symbol_of (bucket b) ≡ Some s → s < length hashes
  leader-within b s e =
      path-within _ (bucket b) (chain-each count b hashes) (λ e is. is.0) (linked.paths b) s e

  -- a predecessor is among the placed symbols
  pub predecessor-within : (hash b p : ℕ) → IsPredecessor hash (bucket b) p → p < length hashes
  predecessor-within hash b p pred = (chain-entry count b hashes _ _ _ pred.split).0.0

  module _ (hash : ℕ) (symbol : Symbol) (numbered : symbol ≡ length hashes) (small : symbol < 2 ^ 32)
      (free : symbol < count) where
    number-is : length links ≡ symbol
    number-is = linked.paired ∙ sym numbered

    placed-linked : (after : List Symbol) → length after ≡ length links + 1 → ((b : ℕ) → b ≢ hash % count →
        AllByRecursion (λ (e : ℕ × ℕ). next_of after e.0 ≡ next_of links e.0) (bucket b)) →
        IsPath (next_of after) (first_symbol_of (insert_sorted symbol hash (bucket (hash % count))))
        (symbols_of (insert_sorted symbol hash (bucket (hash % count)))) →
        IsLinked count (hashes ++ hash ∷ []) after
    placed-linked after size kept path =
        let more = length-append hashes (hash ∷ []) in
        linked-changed (hash % count) linked (λ b n. chain-stays count b hashes hash n) kept
        (rw (chain-grows count hashes hash, ← numbered) path) (omega (arith, size, more, linked.paired))
        (omega (arith, free, numbered, more)) (omega (arith, small, numbered, more))

    -- where nothing in front is smaller, the symbol becomes the bucket's first
    pub place-first : (next : Option Symbol) → next ≡ first_symbol_of (bucket (hash % count)) →
        BeginsAtOrAbove hash (bucket (hash % count)) →
        IsLinked count (hashes ++ hash ∷ []) (links ++ unwrap_or next symbol ∷ [])
    place-first next is begins =
        let link : Symbol = unwrap_or next symbol in
        let more : List Symbol = links ++ link ∷ [] in
        let k : ℕ = hash % count in
        let other : next ≡ Some symbol → ⊥ =
        λ e. (let l = leader-within k symbol (sym is ∙ e) in absurd (omega (arith, l, numbered))) in
        let at_n : next_of more symbol ≡ first_symbol_of (bucket k) =
        ap (target_of symbol) (get_or_push links link 0 symbol number-is)
        ∙ target-kept symbol next other ∙ is in
        let kept : (b : ℕ) → AllByRecursion (λ (e : ℕ × ℕ). next_of more e.0 ≡ next_of links e.0) (bucket b) =
        λ b. Each-so _ _ _ (chain-each count b hashes) (λ e h. ap (target_of e.0)
        (get_or_append_left links (link ∷ []) 0 e.0 (omega (arith, h.0, linked.paired)))) in
        placed-linked more (length-append links (link ∷ [])) (λ b n. kept b)
        (rw (insert_sorted-between symbol hash [] (bucket k) tt begins)
        (refl, rw at_n (path-kept (next_of links) (next_of more) _ _ (kept k) (linked.paths k))))

    -- where p is the last of those with smaller hashes, the symbol comes behind it
    pub place-behind : (p : ℕ) (next : Option Symbol) → p < length hashes → next ≡ next_of links p →
        IsPredecessor hash (bucket (hash % count)) p →
        IsLinked count (hashes ++ hash ∷ []) (set (links ++ unwrap_or next symbol ∷ []) p symbol)
    place-behind p next l is pred =
        let link : Symbol = unwrap_or next symbol in
        let more : List Symbol = links ++ link ∷ [] in
        let size : length more ≡ length links + 1 = length-append links (link ∷ []) in
        let k : ℕ = hash % count in
        let all : List Symbol = set more p symbol in
        let apart : symbol ≢ p = omega arith in
        let at_p : next_of all p ≡ Some symbol =
        ap (target_of p) (get_or-set_same more p symbol 0 (omega (arith, l, size, linked.paired)))
        ∙ target-kept p (Some symbol) (λ e. apart (let q : symbol ≡ p = cc in q)) in
        let other : next ≡ Some symbol → ⊥ = λ e. (let below = link-within p symbol l (sym is ∙ e) in
        absurd (omega (arith, below, numbered))) in
        let at_n : next_of all symbol ≡ next_of links p =
        ap (target_of symbol) (get_or-set_other more p symbol symbol 0 apart
        ∙ get_or_push links link 0 symbol number-is) ∙ target-kept symbol next other ∙ is in
        let same : (e : ℕ × ℕ) → IsOther (length hashes) p e → next_of all e.0 ≡ next_of links e.0 = λ e h.
        ap (target_of e.0) (get_or-set_other more p e.0 symbol 0 h.1
        ∙ get_or_append_left links (link ∷ []) 0 e.0 (omega (arith, h.0, linked.paired))) in
        let entry = (chain-entry count k hashes _ _ _ pred.split).0 in
        let others = beside count k hashes pred.front (p, pred.hash) pred.behind
        (rw pred.split at (chain-each count k hashes)) (rw pred.split at (chain-distinct count k hashes)) in
        placed-linked all (length-set more p symbol ∙ size)
        (λ b n. Each-so _ _ _ (in-no-other count b k hashes p pred.hash entry n) same)
        (rw (put-behind symbol hash (bucket k) p pred, leader-same pred.front (p, pred.hash) _ pred.behind)
        (path-spliced (next_of links) _ _ pred.front _ pred.behind _ (Each-so _ _ _ others.0 same)
        (at_p, rw at_n (path-kept _ _ _ pred.behind (Each-so _ _ _ others.1 same) (behind k _ _ _ pred.split)))
        (rw pred.split at (linked.paths k))))

  -- the last symbol is taken out of its bucket
  module _ (hash i : ℕ) (last : i + 1 ≡ length hashes) (read : hash ≡ get_or hashes i hash) where
    abbrev left : ℕ → List (ℕ × ℕ)
    left b = chain_from count b 0 [] (take i hashes)

    split-hashes : hashes ≡ take i hashes ++ hash ∷ []
    split-hashes = grind (arith, common_steps)

    left-size : length (take i hashes) ≡ i
    left-size = length-take-le i hashes (omega arith)

    -- the other buckets stay
    pub others-stay : (b : ℕ) → b ≢ hash % count → left b ≡ bucket b
    others-stay b other =
        sym (ap (chain_from count b 0 []) split-hashes ∙ chain-stays count b (take i hashes) hash other)

    grows : bucket (hash % count) ≡ insert_sorted i hash (left (hash % count))
    grows = ap (chain_from count (hash % count) 0 []) split-hashes
        ∙ rw left-size at (chain-grows count (take i hashes) hash)

    left-linked : (after : List Symbol) → length after ≡ i → ((b : ℕ) → b ≢ hash % count →
        AllByRecursion (λ (e : ℕ × ℕ). next_of after e.0 ≡ next_of links e.0) (left b)) →
        IsPath (next_of after) (first_symbol_of (left (hash % count))) (symbols_of (left (hash % count))) →
        IsLinked count (take i hashes) after
    left-linked after size kept path = linked-changed (hash % count) linked others-stay
        (λ b n. rw (← others-stay b n) (kept b n)) path (size ∙ sym left-size)
        (omega (arith, left-size, linked.few)) (omega (arith, left-size, linked.numbered))

    -- what the bucket is without the last symbol, behind the predecessor
    parted : (p : ℕ) (pred : IsPredecessor hash (bucket (hash % count)) p) → (rest : List (ℕ × ℕ))
        × (pred.behind ≡ (i, hash) ∷ rest) × (left (hash % count) ≡ pred.front ++ (p, pred.hash) ∷ rest)
    parted p pred =
        let r = unput i hash (left (hash % count)) (pred.front ++ (p, pred.hash) ∷ []) pred.behind
        (sym grows ∙ pred.split ∙ sym (append_assoc pred.front ((p, pred.hash) ∷ []) pred.behind)) pred.smaller pred.others in
        (r.0, r.1, r.2 ∙ append_assoc pred.front ((p, pred.hash) ∷ []) r.0)

    -- the predecessor is not the last symbol itself
    pub predecessor-below : (p : ℕ) → IsPredecessor hash (bucket (hash % count)) p → p < i
    predecessor-below p pred =
        let r = parted p pred in
        rw left-size at (chain-entry count (hash % count) (take i hashes) pred.front (p, pred.hash) r.0 r.2).0.0

    module _ (next : Option Symbol) (is_next : next ≡ next_of links i) where
      -- where the last symbol is the first of its bucket, the others begin at its link
      pub cut-first : BeginsAtOrAbove hash (bucket (hash % count)) → IsLinked count (take i hashes) (take i links)
          × (next ≡ first_symbol_of (left (hash % count)))
      cut-first begins =
          let k : ℕ = hash % count in
          let same : (b : ℕ) → AllByRecursion (λ (e : ℕ × ℕ). next_of (take i links) e.0 ≡ next_of links e.0) (left b) =
          λ b. Each-so _ _ _ (chain-each count b (take i hashes)) (λ e h. ap (target_of e.0)
          (get_or-take i links e.0 0 (rw left-size at h.0))) in
          let r = unput i hash (left k) [] (bucket k) (sym grows) tt begins in
          let path = path-kept (next_of links) (next_of (take i links)) next (left k) (same k)
          (rw (is_next, r.2) (behind k [] (i, hash) r.0 r.1)) in
          let leads = path-leader (next_of (take i links)) next (left k) path in (
            left-linked (take i links) (length-take-le i links (omega (arith, linked.paired)))
                (λ b n. same b) (rw leads at path),
            leads,
          )

      -- where another stands in front of it, the bucket begins as before
      pub cut-behind : (p : ℕ) → IsPredecessor hash (bucket (hash % count)) p →
          IsLinked count (take i hashes) (set (take i links) p (unwrap_or next p))
          × (first_symbol_of (left (hash % count)) ≡ first_symbol_of (bucket (hash % count)))
      cut-behind p pred =
          let k : ℕ = hash % count in
          let after : List Symbol = set (take i links) p (unwrap_or next p) in
          let size = length-take-le i links (omega (arith, linked.paired)) in
          let same : (e : ℕ × ℕ) → IsOther (length (take i hashes)) p e → next_of after e.0 ≡ next_of links e.0 = λ e h.
          ap (target_of e.0) (get_or-set_other (take i links) p e.0 (unwrap_or next p) 0 h.1
          ∙ get_or-take i links e.0 0 (rw left-size at h.0)) in
          let r = parted p pred in
          let entry = (chain-entry count k (take i hashes) pred.front (p, pred.hash) r.0 r.2).0 in
          let others = beside count k (take i hashes) pred.front (p, pred.hash) r.0
          (rw r.2 at (chain-each count k (take i hashes))) (rw r.2 at (chain-distinct count k (take i hashes))) in
          let leads : first_symbol_of (left k) ≡ first_symbol_of (bucket k) = ap first_symbol_of r.2
          ∙ leader-same pred.front (p, pred.hash) r.0 pred.behind ∙ ap first_symbol_of (sym pred.split) in
          let on = rw (← is_next) at (rw r.1 at (behind k pred.front (p, pred.hash) pred.behind pred.split)).1 in
          let at_p : next_of after p ≡ next =
          ap (target_of p) (get_or-set_same (take i links) p (unwrap_or next p) 0
          (omega (arith, predecessor-below p pred, size)))
          ∙ target-kept p next (begins-elsewhere (next_of links) next _ p r.0 others.1 on) in (
            left-linked after (length-set (take i links) p (unwrap_or next p) ∙ size)
                (λ b n. Each-so _ _ _ (in-no-other count b k (take i hashes) p pred.hash entry n) same)
                (rw (r.2, leader-same pred.front (p, pred.hash) r.0 pred.behind)
                (path-spliced (next_of links) (next_of after) _ pred.front (p, pred.hash) pred.behind r.0
                (Each-so _ _ _ others.0 same)
                (rw at_p (path-kept (next_of links) (next_of after) next _ (Each-so _ _ _ others.1 same) on))
                (rw pred.split at (linked.paths k)))),
            leads,
          )
