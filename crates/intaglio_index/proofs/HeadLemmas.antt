-- What the words of a bucket's head tell, and how they change.
use Rattle.std.proofs.Common.{◌≡◌, ◌≢◌, ◌↔◌, ℕ, ◌+◌, ◌^◌, ◌%◌, ◌<◌, ◌≤◌, take, List, [], ◌∷◌, ◌++◌, length, get_or, set, Option, Some, None, Bool, true, false, not, refl, sym, ap, ◌∙◌, arith, eqb, inl, inr, length-append}
use Rattle.intaglio_index.proofs.Names.{AllByRecursion, is_some, eqb-false, true≢false, false≢true, eqb_tells, get_or-set_same, get_or-set_other, length-set, set-get_or, get_or_read, Head, Symbol, IsFiltered, IsMarked, IsThread, IsLinked, next_of, common_steps, Placed, IsEntry, chain_from, first_symbol_of, symbols_of, insert_sorted, IsPredecessor, IsWord, IsHead, IsHeaded}
use Rattle.std.specs.List.{IsDistinct}
use Rattle.intaglio_index.specs.declared.index.modulus.Modulus.{Modulus}
use Rattle.intaglio_index.specs.Modulus.{IsModulus}
use Rattle.intaglio_index.proofs.FilterLemmas.{filtered-push, filtered-take, filtered-vacated, marked-some}
use Rattle.intaglio_index.proofs.LinkLemmas.{others-stay, path-within}
use Rattle.intaglio_index.specs.Placed.{chain}
use Rattle.intaglio_index.proofs.ChainLemmas.{put-some, put-behind, chain-grows, chain-stays, symbol-at, chain-entries}

-- a head whose words are both 0
abbrev pub no_head : Head
no_head = record { first = 0; second = 0 }

-- two statements of which neither holds are equivalent
pub neither : {A B : Type 0} → (A → ⊥) → (B → ⊥) → A ↔ B
neither f g = (λ a. absurd (f a), λ b. absurd (g b))

-- a list without a first symbol is empty
pub nil-leader : (es : List (ℕ × ℕ)) → None ≡ first_symbol_of es → es ≡ []
nil-leader [] e = refl
nil-leader (x ∷ xs) e = cc

-- a list with a first symbol isn't empty
pub led-some : (es : List (ℕ × ℕ)) (s : ℕ) → Some s ≡ first_symbol_of es → es ≡ [] → ⊥
led-some [] s e none = (let never = e in cc)
led-some (x ∷ xs) s e none = cc

-- a list that isn't empty is a first entry and a rest
pub some-entries : (es : List (ℕ × ℕ)) → (es ≡ [] → ⊥) → (e : ℕ × ℕ) × (rest : List (ℕ × ℕ)) × (es ≡ e ∷ rest)
some-entries [] n = absurd (n refl)
some-entries (x ∷ xs) n = (x, xs, refl)

-- a symbol is put into a bucket
module _ (size s h word : ℕ) (is_word : IsWord size (s, h) word) where
  -- which is empty
  pub head-alone : (path : List (ℕ × ℕ)) → path ≡ [] →
      IsHead size (record { first = word; second = word }) (insert_sorted s h path)
  head-alone path none = rw none (is_word, is_word)

  -- behind the first one
  second-at : (head : Head) (front : List (ℕ × ℕ)) (last hash : ℕ) (behind : List (ℕ × ℕ)) →
      IsDistinct eqb (symbols_of (front ++ (last, hash) ∷ behind)) →
      IsHead size head (front ++ (last, hash) ∷ behind) →
      Some last ≡ first_symbol_of (front ++ (last, hash) ∷ behind) →
      IsHead size (record { first = head.first; second = word }) (front ++ (last, hash) ∷ (s, h) ∷ behind)
  unfolding IsDistinct
  second-at head [] last hash behind apart is leads = (is.0, is_word)
  second-at head (x ∷ front) last hash behind apart is leads =
      absurd (eqb-false x.0 last (symbol-at (λ s. eqb x.0 s ≡ false) front (last, hash) behind apart.0) cc)

  pub head-second : (head : Head) (path : List (ℕ × ℕ)) (last : ℕ) → IsDistinct eqb (symbols_of path) →
      IsHead size head path → Some last ≡ first_symbol_of path → IsPredecessor h path last →
      IsHead size (record { first = head.first; second = word }) (insert_sorted s h path)
  head-second head path last apart is leads pred = rw (put-behind s h path last pred)
      (second-at head pred.front last pred.hash pred.behind (rw pred.split at apart) (rw pred.split at is)
      (rw pred.split at leads))

  -- further behind
  later-at : (head : Head) (front : List (ℕ × ℕ)) (first last hash : ℕ) (behind : List (ℕ × ℕ)) →
      IsHead size head (front ++ (last, hash) ∷ behind) →
      Some first ≡ first_symbol_of (front ++ (last, hash) ∷ behind) → first ≢ last →
      IsHead size head (front ++ (last, hash) ∷ (s, h) ∷ behind)
  later-at head [] first last hash behind is leads other = absurd (other cc)
  later-at head (x ∷ []) first last hash behind is leads other = is
  later-at head (x ∷ y ∷ front) first last hash behind is leads other = is

  pub head-stays : (head : Head) (path : List (ℕ × ℕ)) (first last : ℕ) → IsHead size head path →
      Some first ≡ first_symbol_of path → first ≢ last → IsPredecessor h path last →
      IsHead size head (insert_sorted s h path)
  head-stays head path first last is leads other pred = rw (put-behind s h path last pred)
      (later-at head pred.front first last pred.hash pred.behind (rw pred.split at is)
      (rw pred.split at leads) other)

-- in an empty bucket nothing stands in front
pub never-behind : (h : ℕ) (path : List (ℕ × ℕ)) (last : ℕ) → path ≡ [] → IsPredecessor h path last → ⊥
never-behind h path last none pred =
    (let parts : [] ≡ pred.front ++ (last, pred.hash) ∷ pred.behind = sym none ∙ pred.split in
    omega (arith, ap length parts, length-append pred.front ((last, pred.hash) ∷ pred.behind)))

-- the head of a list that is read off the hashes and links
module _ {hashes links : List ℕ} {s : ℕ} where
  -- its first symbol is placed
  pub thread-within : (path : List (ℕ × ℕ)) → IsThread hashes links (Some s) path → s < length hashes
  thread-within path t = path-within (next_of links) path t.read (λ e is. is.0) t.path s refl

  -- and so is its second
  pub thread-next : (path : List (ℕ × ℕ)) {next : ℕ} → IsThread hashes links (Some s) path →
      next_of links s ≡ Some next → next < length hashes
  thread-next [] t e = (let never = t.path in cc)
  thread-next (x ∷ es) {next} t e =
      let same : s ≡ x.0 = (let q = t.path.0 in cc) in
      path-within (next_of links) es t.read.1 (λ e is. is.0) t.path.1 next (rw same at e)

-- a bucket with a symbol, and its head
pub record IsOccupied (v : Placed) (k size : ℕ) (head : Head) : Type 0 where
  pub e : ℕ × ℕ
  pub es : List (ℕ × ℕ)
  pub split : chain v k ≡ e ∷ es
  pub is : IsHead size head (e ∷ es)

-- what holds of the fields of an index
abbrev pub Holds : Modulus → List Head → List ℕ → List ℕ → List Symbol → Type 0
Holds m heads filters hashes links = record {
  modulus : IsModulus m;
  counted : m.count ≡ length heads;
  linked : IsLinked (length heads) hashes links;
  headed : IsHeaded (m.mask + 1) heads filters hashes;
  filtered : IsFiltered filters (length heads) hashes;
}

module _ {v : Placed} {m : Modulus} {heads : List Head} {filters hashes : List ℕ} {links : List Symbol}
    {room : ℕ} (view : ◌≡◌ {A = Placed} (record { count = length heads; hashes = hashes; room = room }) v)
    (holds : Holds m heads filters hashes links) where
  -- there are as many heads as buckets
  pub count-is : v.count ≡ length heads
  count-is = ap (λ (v : Placed). v.count) (sym view)

  -- the placed symbols are below 2^32
  pub numbered : length v.hashes ≤ 2 ^ 32
  numbered = rw (← view) holds.linked.numbered

  empty_bucket-at : (k : ℕ) → k < v.count → (get_or filters k 0 ≡ 0) ↔ (chain v k ≡ [])
  unfolding chain
  empty_bucket-at k within = rw (← view) (holds.headed.empty_bucket k (omega (arith, count-is, within)))

  words-at : (k : ℕ) → k < v.count → IsHead (m.mask + 1) (get_or heads k no_head) (chain v k)
  unfolding chain
  words-at k within = rw (← view) (holds.headed.words k (omega (arith, count-is, within)))

  -- a bucket whose filter is 0 is empty
  pub is-vacant : (k filter : ℕ) → k < v.count → filter ≡ get_or filters k filter → filter ≡ 0 → chain v k ≡ []
  is-vacant k filter within read none = (empty_bucket-at k within).0
      (sym (get_or_read filters k filter (omega (arith, count-is, holds.filtered.size)) read 0) ∙ none)

  -- where the bucket is known to have a symbol
  pub is-occupied-by : (k : ℕ) (head : Head) → k < v.count → head ≡ get_or heads k head →
      (chain v k ≡ [] → ⊥) → IsOccupied v k (m.mask + 1) head
  is-occupied-by k head within read some =
      let parts = some-entries (chain v k) some in
      let same : head ≡ get_or heads k no_head =
      get_or_read heads k head (omega (arith, count-is)) read no_head in
      record { e = parts.0; es = parts.1; split = parts.2; is = rw (← same, parts.2) at (words-at k within) }

  -- a bucket whose filter isn't 0 has a symbol
  pub is-occupied : (k : ℕ) (head : Head) (filter : ℕ) → k < v.count → head ≡ get_or heads k head →
      filter ≡ get_or filters k filter → (filter ≡ 0 → ⊥) → IsOccupied v k (m.mask + 1) head
  is-occupied k head filter within read_head read some = is-occupied-by k head within read_head (λ none.
      some (get_or_read filters k filter (omega (arith, count-is, holds.filtered.size)) read 0
      ∙ (empty_bucket-at k within).1 none))

module _ {v : Placed} {k size : ℕ} {head : Head} (o : IsOccupied v k size head) where
  -- the entries of a bucket with a symbol are placed symbols of it, with their hashes
  pub entries : AllByRecursion (IsEntry v.count k v.hashes) (o.e ∷ o.es)
  entries = rw o.split at (chain-entries v k)

  -- its first symbol is the low bits of the first word
  pub leads : first_symbol_of (chain v k) ≡ Some (head.first % size)
  leads = ap first_symbol_of o.split ∙ ap (λ s. Some s) (sym o.is.0.1)

  -- which is that of a placed symbol
  pub first-within : head.first % size < length v.hashes
  first-within = omega (arith, o.is.0.1, entries.0.0)

  second-in : (es : List (ℕ × ℕ)) → IsHead size head (o.e ∷ es) →
      AllByRecursion (IsEntry v.count k v.hashes) (o.e ∷ es) → head.second % size < length v.hashes
  second-in [] is each = omega (arith, is.1.1, each.0.0)
  second-in (f ∷ fs) is each = omega (arith, is.1.1, each.1.0.0)

  -- and so is the second word
  pub second-within : head.second % size < length v.hashes
  second-within = second-in o.es o.is entries

module _ {m : Modulus} {heads : List Head} {filters hashes : List ℕ} {links : List Symbol}
    (holds : Holds m heads filters hashes links) where
  -- a head that was read
  pub head-read : (k : ℕ) (head : Head) → k < length heads → head ≡ get_or heads k head →
      IsHead (m.mask + 1) head (chain_from (length heads) k 0 [] hashes)
  head-read k head within read =
      rw (← get_or_read heads k head within read no_head) at (holds.headed.words k within)

  -- one bucket changes
  holds-changed : (later : List ℕ) (after : List Symbol) (k : ℕ) (head : Head) (filter : ℕ) → k < length heads →
      ((b : ℕ) → b ≢ k → chain_from (length heads) b 0 [] later ≡ chain_from (length heads) b 0 [] hashes) →
      (filter ≡ 0) ↔ (chain_from (length heads) k 0 [] later ≡ []) →
      IsHead (m.mask + 1) head (chain_from (length heads) k 0 [] later) → IsLinked (length heads) later after →
      IsFiltered (set filters k filter) (length heads) later →
      Holds m (set heads k head) (set filters k filter) later after
  holds-changed later after k head filter within others empty is linked filtered =
      let count = length-set heads k head in
      let lf : k < length filters = omega (arith, holds.filtered.size) in
      record {
        modulus = holds.modulus;
        counted = holds.counted ∙ sym count;
        linked = rw count linked;
        headed = record {
          empty_bucket = λ b l. rw count (elim (eqb_tells b k) [
            | inl h ↦ rw (h.1, get_or-set_same filters k filter 0 lf) empty
            | inr h ↦ rw (get_or-set_other filters k b filter 0 h.1, others b h.1)
                (holds.headed.empty_bucket b (omega (arith, l, count)))
          ]);
          words = λ b l. rw count (elim (eqb_tells b k) [
            | inl h ↦ rw (h.1, get_or-set_same heads k head no_head within) is
            | inr h ↦ rw (get_or-set_other heads k b head no_head h.1, others b h.1)
                (holds.headed.words b (omega (arith, l, count)))
          ]);
        };
        filtered = rw count filtered;
      }

  -- one hash more
  pub holds-pushed : (hash mark : ℕ) {filter : ℕ} (head : Head) {after : List Symbol} →
      hash % length heads < length heads → filter ≡ get_or filters (hash % length heads) filter →
      IsMarked mark hash → ((other : ℕ) → IsMarked filter other → IsMarked mark other) →
      IsHead (m.mask + 1) head
      (insert_sorted (length hashes) hash (chain_from (length heads) (hash % length heads) 0 [] hashes)) →
      IsLinked (length heads) (hashes ++ hash ∷ []) after →
      Holds m (set heads (hash % length heads) head) (set filters (hash % length heads) mark)
      (hashes ++ hash ∷ []) after
  holds-pushed hash mark {filter} head {after} within read marked kept is linked =
      let k : ℕ = hash % length heads in
      let same = get_or_read filters k filter (omega (arith, holds.filtered.size)) read 0 in
      let grows = chain-grows (length heads) hashes hash in
      holds-changed (hashes ++ hash ∷ []) after k head mark within
      (λ b other. chain-stays (length heads) b hashes hash other) (neither (marked-some mark hash marked)
      (λ e. put-some (length hashes) hash (chain_from (length heads) k 0 [] hashes) (sym grows ∙ e)))
      (rw grows is) linked (filtered-push filters (length heads) hashes hash mark holds.filtered within marked
      (λ other m. kept other (rw (← same) at m)))

  -- the last hash was taken out
  module _ (hash i : ℕ) (last : i + 1 ≡ length hashes) (read : hash ≡ get_or hashes i hash) where
    within : hash % length heads < length heads
    within = omega (arith, last, holds.linked.few)

    -- its bucket has a filter
    marked : get_or filters (hash % length heads) 0 ≡ 0 → ⊥
    marked none = grind (arith, common_steps)

    -- and has no symbol left
    pub holds-vacated : (after : List Symbol) → IsLinked (length heads) (take i hashes) after →
        chain_from (length heads) (hash % length heads) 0 [] (take i hashes) ≡ [] →
        Holds m heads (set filters (hash % length heads) 0) (take i hashes) after
    holds-vacated after linked empty = rw (set-get_or heads (hash % length heads) no_head) at
        (holds-changed (take i hashes) after (hash % length heads) (get_or heads (hash % length heads) no_head) 0 within
        (others-stay holds.linked hash i last read) (λ e. empty, λ e. refl) (rw empty tt) linked
        (filtered-vacated _ (filtered-take i holds.filtered) empty))

    -- and begins with this symbol
    pub holds-read : (after : List Symbol) (head : Head) (first : Symbol) →
        IsLinked (length heads) (take i hashes) after →
        Some first ≡ first_symbol_of (chain_from (length heads) (hash % length heads) 0 [] (take i hashes)) →
        IsHead (m.mask + 1) head (chain_from (length heads) (hash % length heads) 0 [] (take i hashes)) →
        Holds m (set heads (hash % length heads) head) filters (take i hashes) after
    holds-read after head first linked leads is =
        let same = set-get_or filters (hash % length heads) 0 in
        rw same at (holds-changed (take i hashes) after (hash % length heads) head
        (get_or filters (hash % length heads) 0) within
        (others-stay holds.linked hash i last read) (neither marked (led-some _ _ leads)) is linked
        (rw same (filtered-take i holds.filtered)))

-- whether a bucket has no symbol
pub alone-is : (path : List (ℕ × ℕ)) (first_symbol : Option ℕ) (alone : Bool) →
    first_symbol ≡ first_symbol_of path → is_some first_symbol ≡ not alone → (alone ≡ true) ↔ (path ≡ [])
alone-is [] first_symbol true leads tells = (λ e. refl, λ e. refl)
alone-is [] first_symbol false leads tells = absurd (true≢false (sym tells ∙ ap is_some leads))
alone-is (x ∷ xs) first_symbol true leads tells = absurd (true≢false (sym (ap is_some leads) ∙ tells))
alone-is (x ∷ xs) first_symbol false leads tells = neither (λ e. false≢true e) (λ e. cc)
