-- What one turn of a loop over a batch does: one more string is interned, or copied to the buffer, and what
-- was done before stays. So the loop's invariant holds of one string more.
use Rattle.intaglio_c.proofs.Names.{◌≡◌, ◌+◌, ◌-◌, ◌<◌, ◌≤◌, ◌∷◌, ◌++◌, common_steps, drop-set-lt, ℕ, true, cond, inl, inr, List, [], length, map, take, drop, refl, sym, ap, subst, ◌∙◌, le_refl, arith, length-append, append_assoc, append-nil, Option, Some, None, Result, Ok, Err, is_some, unwrap_or, slice_get, concat, get_or, set, take_more, take_more_set, take_at, take-append-drop, drop_at, map_push, drop-drop, length-drop, slice_get_within, IfOk-at_ok, IfErr-at_err, issued, interned, interned_all, issue_from, State, AreFirstCopied, AreStored, ends_from, AreInterned, IsBegun, IsRolledBack, InternsOr, fault, first_fault, key, Seen, position, unless, IsChangedBy, Interns, InternsBy, Refusal, drop_there, take_there}
use Rattle.std.proofs.lemmas.List.Folds.{concat-append}
use borrow.Rule.Slice.PartMut.{put_mid}
use Rattle.intaglio_interner.proofs.Laws.{interned_all-found, keeps-front}
use Rattle.intaglio_interner.proofs.Held.{content-still, first-still, interned_all-append, issue_from-append}
use Rattle.intaglio_c.proofs.Faults.{one-more}
use Rattle.intaglio_c.specs.declared.refusal.Refusal.TheVariants as refusal

-- if the state stays the same, all of this does
unchanged : (s s' : State (List ℕ)) → s' ≡ s → IsRolledBack s s'
unchanged s s' same =
    subst (IsRolledBack s) (sym same) (record { contents = refl; capacity = le_refl _; limit = refl })

-- one interning of a batch
accepted-by : (fault : Option Refusal) (o : Option ℕ) (s s' : State (List ℕ)) (string : List ℕ) (symbol : ℕ) →
    InternsBy true string s (unless fault o) (Ok symbol) s'
    → (fault ≡ None) × (symbol ≡ unwrap_or o (length s.contents))
    × (s'.contents ≡ cond (is_some o) s.contents (s.contents ++ string ∷ []))
    × (length s.contents + s.spare ≤ length s'.contents + s'.spare) × (s'.limit ≡ s.limit)
accepted-by None None s s' string symbol taken =
    (refl, taken.position, taken.contents, grind (arith, common_steps), taken.limit)
accepted-by None (Some i) s s' string symbol known = let kept = unchanged s s' known.1 in
    (refl, IfOk-at_ok (λ n. symbol ≡ n) known.0 refl, kept.contents, kept.capacity, kept.limit)
accepted-by (Some r) o s s' string symbol refused = absurd (IfErr-at_err (λ _. ⊥) refused.0 tt)

-- if interning a string by a copy fails, the strings and the limit stay, and the capacity isn't lower
kept-by : (f : Option Refusal) (o : Option ℕ) (s s' : State (List ℕ)) (string : List ℕ) (r : Refusal) →
    InternsBy true string s (unless f o) (Err r) s' → IsRolledBack s s'
kept-by None None s s' string refusal.Full full = unchanged s s' full.1
kept-by None None s s' string refusal.NoMemory (inl kept) = unchanged s s' kept.same
kept-by None None s s' string refusal.NoMemory (inr kept) = grind (arith, common_steps)
kept-by None None s s' string _ never = absurd never
kept-by None (Some i) s s' string r known = unchanged s s' known.1
kept-by (Some f) o s s' string r refused = unchanged s s' refused.1

module _ (t0 : Seen) (strings : List (List ℕ)) where
  -- the first strings are interned
  abbrev pub Begins : Seen → ℕ → List ℕ → Type 0
  Begins t n issued = IsChangedBy t0 t (λ _ s'. AreInterned t0 (take n strings) issued s')

  pub turned : (t t' : Seen) (symbols : List ℕ) (i symbol : ℕ) (string : List ℕ) (result : Result ℕ Refusal) →
      slice_get strings i ≡ Some string → length symbols ≡ length strings → Begins t i (take i symbols)
      → result ≡ Ok symbol → IsChangedBy t t' (λ _ s'. Interns string t result s')
      → Begins t' (i + 1) (take (i + 1) (set symbols i symbol))
  turned t t' symbols i symbol string result there places begins ok step =
      let k = key t0.kind in let held = t0.state.contents in let one = string ∷ [] in let all = begins.step in
      let more = take_there strings i string there in
      let taken = rw begins.kind at (accepted-by (fault t.kind string) (position t string) t.state t'.state
      string symbol (rw ok at step.step)) in
      let given : take (i + 1) (set symbols i symbol) ≡ issue_from k held (take (i + 1) strings) =
      take_more_set symbols i symbol (omega (arith, slice_get_within strings i string there, places))
      ∙ (λ j. all.symbols j ++ (taken.1 ∙ ap (λ (cs : List (List ℕ)). issued k cs string) all.contents) j
      ∷ [])
      ∙ sym (issue_from-append k held (take i strings) one) ∙ ap (issue_from k held) (sym more) in
      let after : t'.state.contents ≡ interned_all k held (take (i + 1) strings) =
      taken.2 ∙ ap (λ (cs : List (List ℕ)). interned k cs string) all.contents
      ∙ sym (interned_all-append k held (take i strings) one) ∙ ap (interned_all k held) (sym more) in
      record {
        kind = step.kind ∙ begins.kind;
        hasher = step.hasher ∙ begins.hasher;
        step = record {
          faultless =
              ap (first_fault t0.kind) more ∙ one-more t0.kind (take i strings) string all.faultless taken.0;
          symbols = given;
          contents = after;
          found = interned_all-found k t0.state t'.state (take (i + 1) strings) _ given after;
          kept = keeps-front k t0.state t'.state (record {
            stored = λ n c e. rw after (content-still k held (take (i + 1) strings) n c e);
            found = λ q n e. rw after (first-still k held (take (i + 1) strings) q n e);
          });
          capacity = omega (arith, all.capacity, taken.3);
          limit = taken.4 ∙ all.limit;
        };
      }

  pub stopped : (t t' : Seen) (issued symbols : List ℕ) (i : ℕ) (string : List ℕ) (refusal : Refusal)
      (result : Result ℕ Refusal) → slice_get strings i ≡ Some string → Begins t i issued
      → result ≡ Err refusal → IsChangedBy t t' (λ _ s'. Interns string t result s')
      → IsChangedBy t0 t' (λ _ s'. InternsOr IsBegun strings symbols t0 (Err refusal) s')
  stopped t t' issued symbols i string refusal result there begins err step =
      let failed = rw err at step.step in record {
        kind = step.kind ∙ begins.kind;
        hasher = step.hasher ∙ begins.hasher;
        step = (
          record {
            before = take i strings;
            string = string;
            behind = drop (i + 1) strings;
            are = sym (take-append-drop i strings)
                ∙ ap (λ (x : List (List ℕ)). take i strings ++ x) (drop_there strings i string there);
            faultless = begins.step.faultless;
            reached = t.state;
            contents = begins.step.contents;
            limit = begins.step.limit;
            left = t'.state;
            alone = rw begins.kind at failed;
          },
          let all = begins.step in let kept =
              kept-by (fault t.kind string) (position t string) t.state t'.state string refusal failed in
              grind (arith, common_steps),
        );
      }

-- the strings of symbols
ends_from-append : (n : ℕ) (xs ys : List (List ℕ)) →
    ends_from n (xs ++ ys) ≡ ends_from n xs ++ ends_from (n + length (concat xs)) ys
ends_from-append n [] ys = ap (λ (k : ℕ). ends_from k ys) (omega arith)
ends_from-append n (x ∷ xs) ys =
    let place : n + length x + length (concat xs) ≡ n + length (x ++ concat xs) =
    omega (arith, length-append x (concat xs)) in
    ap (λ (zs : List ℕ). (n + length x) ∷ zs) (ends_from-append (n + length x) xs ys
    ∙ ap (λ (k : ℕ). ends_from (n + length x) xs ++ ends_from k ys) place)

module _ (contents : List (List ℕ)) (old : List ℕ) where
  -- a copy on its way: the strings of these symbols are at the front of the buffer
  pub record IsCopied (symbols new : List ℕ) (start : ℕ) (ends : List ℕ) : Type 0 where
    pub done : List (List ℕ)
    pub stored : AreStored contents symbols done
    pub place : start ≡ length (concat done)
    pub within : start ≤ length old
    pub buffer : new ≡ concat done ++ drop start old
    pub written : ends ≡ ends_from 0 done

  size : (symbols new ends : List ℕ) (start : ℕ) → IsCopied symbols new start ends → length new ≡ length old
  size symbols new ends start it =
      omega (arith, simp (length-append, length-drop) at (ap length it.buffer), it.place, it.within)

  -- a copy that ends before the symbol i
  abbrev pub first_copied : (symbols new ends places : List ℕ) (start i : ℕ) →
      IsCopied (take i symbols) new start (take i ends) → drop i ends ≡ drop i places
      → AreFirstCopied contents symbols old places new ends i
  first_copied symbols new ends places start i at rest = record {
    strings = at.done;
    stored = at.stored;
    copied = record {
      within = omega (arith, at.place, at.within);
      buffer = at.buffer ∙ ap (λ (n : ℕ). concat at.done ++ drop n old) at.place;
      ends = at.written;
    };
    rest = rest;
  }

  -- a string that is longer than the rest of the buffer
  pub too_short : (symbols new ends : List ℕ) (start : ℕ) (string : List ℕ) →
      (at : IsCopied symbols new start ends) → length new - start < length string
      → length old < length (concat at.done) + length string
  too_short symbols new ends start w at less = omega (arith, less, size _ _ _ start at, at.place, at.within)

  pub copied_more : (symbols new ends written : List ℕ) (start i : ℕ) (string : List ℕ) → i < length symbols →
      i < length ends → IsCopied (take i symbols) new start (take i ends) →
      slice_get contents (get_or symbols i 0) ≡ Some string
      → start + length string ≤ length new → written ≡ string
      → IsCopied (take (i + 1) symbols) (put_mid start (start + length string - start) new written)
      (start + length string) (take (i + 1) (set ends i (start + length string)))
  copied_more symbols new ends written start i string inside inside' at there fits same =
      let end = start + length string in let rest = drop end old in let more : concat (at.done ++ string ∷ []) ≡ concat at.done ++ string =
      concat-append at.done (string ∷ []) ∙ ap (λ (x : List ℕ). concat at.done ++ x) (append-nil string) in
      let front : take start new ≡ concat at.done = ap (take start) at.buffer
      ∙ take_at (concat at.done) (drop start old) start (omega (arith, at.place)) in
      let left : drop start new ≡ drop start old = ap (drop start) at.buffer
      ∙ drop_at (concat at.done) (drop start old) start (omega (arith, at.place)) in
      let sum : start + (end - start) ≡ end = omega arith in
      let back : drop (end - start) (drop start new) ≡ rest =
      ap (drop (end - start)) left ∙ drop-drop (end - start) start old ∙ ap (λ (n : ℕ). drop n old) sum in
      let ending : end ≡ 0 + length (concat at.done) + length string = omega (arith, at.place) in record {
        done = at.done ++ string ∷ [];
        stored = ap (map (slice_get contents)) (take_more symbols i 0 inside)
            ∙ map_push (slice_get contents) (take i symbols) (get_or symbols i 0)
            ∙ (λ j. at.stored j ++ there j ∷ []) ∙ sym (map_push Some at.done string);
        place = omega (arith, at.place, ap length more, length-append (concat at.done) string);
        within = omega (arith, fits, size _ _ _ start at);
        buffer = (λ j. front j ++ (same j ++ back j)) ∙ sym (append_assoc (concat at.done) string rest)
            ∙ ap (λ (x : List ℕ). x ++ rest) (sym more);
        written = take_more_set ends i end inside' ∙ (λ j. at.written j ++ end ∷ [])
            ∙ ap (λ (n : ℕ). ends_from 0 at.done ++ n ∷ []) ending
            ∙ sym (ends_from-append 0 at.done (string ∷ []));
      }

-- what isn't written yet stays behind one end more
pub rest_next : (ends places : List ℕ) (i end : ℕ) → drop i ends ≡ drop i places →
    drop (i + 1) (set ends i end) ≡ drop (i + 1) places
rest_next ends places i end rest = drop-set-lt (i + 1) ends i end (omega arith) ∙ sym (drop-drop 1 i ends)
    ∙ ap (drop 1) rest ∙ drop-drop 1 i places
