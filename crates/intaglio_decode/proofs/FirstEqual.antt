-- What is encoded is decoded to each line in the first spelling that is equal to it.
use Rattle.std.proofs.Common.{◌≡◌, sym, ap, refl, ℕ, ◌<◌, List, [], ◌∷◌, ◌++◌, length, map, find, get_or, Option, Some, option_map, unwrap_or, append-nil, append_assoc, arith}
use Rattle.intaglio_decode.proofs.Names.{common_steps, flat_map, All, AllByRecursion, length-map, All-from_recursion, All-nil, All-push, find-append, flat_map-map, Key, key_eq, first, issued, interned, issue_from, issue, interned_all, key_eq-decides, some-below, issued-found, lines_of, spelling_line, encoded_by, IsLine, Holds, Decodes, first_equal, first_spellings, lines_of-are-lines, lines_of-flat_map}
use Rattle.intaglio_interner.proofs.Held.{first-still}

module _ (key : List ℕ → Key) where
  -- the first of the spellings with a key
  abbrev found : List (List ℕ) → Key → Option (List ℕ)
  found spellings k = find (λ other. key_eq (key other) k) spellings

  -- it stands at the first position with the key
  found-first : (spellings : List (List ℕ)) (k : Key) →
      found spellings k ≡ option_map (λ i. get_or spellings i []) (first key spellings k)
  found-first [] k = refl
  found-first (x ∷ xs) k = grind (arith, common_steps, found-first xs k)

  -- a spelling that is interned finds what it finds behind those held
  found-interned : (held : List (List ℕ)) (c : List ℕ) (k : Key) →
      found (interned key held c) k ≡ found (held ++ c ∷ []) k
  found-interned held c k = grind (arith, common_steps, find-append, key_eq-decides (key c) k, found-first held (key c), found-first held k)

  found-all : (held cs : List (List ℕ)) (k : Key) → found (interned_all key held cs) k ≡ found (held ++ cs) k
  found-all held [] k = ap (λ t. found t k) (sym (append-nil held))
  found-all held (c ∷ cs) k = grind (arith, common_steps, found-all (interned key held c) cs k, find-append (λ other. key_eq (key other) k) (interned key held c) cs, found-interned held c k, find-append (λ other. key_eq (key other) k) (held ++ c ∷ []) cs, append_assoc held (c ∷ []) cs)

  -- what is interned is found at its symbol
  first-all : (all held cs : List (List ℕ)) (c : List ℕ) → all ≡ interned_all key held (c ∷ cs) →
      first key all (key c) ≡ Some (issued key held c)
  first-all all held cs c same = rw same (first-still key (interned key held c) cs (key c) (issued key held c) (issued-found key held c))

  -- the spellings of the symbols that are issued are those of the first equal lines
  issued-spellings : (lines all held cs : List (List ℕ)) → ((k : Key) → found all k ≡ found lines k) →
      all ≡ interned_all key held cs
      → map (λ n. get_or all n []) (issue_from key held cs) ≡ map (first_equal key lines) cs
  issued-spellings lines all held [] finds same = refl
  issued-spellings lines all held (c ∷ cs) finds same = grind (arith, common_steps, found-first all (key c), first-all all held cs c same, finds (key c), issued-spellings lines all (interned key held c) cs finds same)

  -- each is one of those held
  issued-known : (all held cs : List (List ℕ)) → all ≡ interned_all key held cs →
      AllByRecursion (λ n. n < length all) (issue_from key held cs)
  issued-known all held [] same = tt
  issued-known all held (c ∷ cs) same = grind (arith, common_steps, some-below, length-map, first-all all held cs c same, issued-known all (interned key held c) cs same)

  interned-lines : (held cs : List (List ℕ)) → All IsLine held → AllByRecursion IsLine cs →
      All IsLine (interned_all key held cs)
  interned-lines held [] all more = all
  interned-lines held (c ∷ cs) all more =
      interned-lines (interned key held c) cs (grind (arith, common_steps, All-push)) more.1

  -- an encoded output holds the issued symbols and the spellings that are held after the lines
  pub holds-encoded : (input : List ℕ) →
      Holds (issue key (lines_of input)) (interned_all key [] (lines_of input)) (encoded_by key input)
  holds-encoded input =
      let lines = lines_of input in
      let all = interned_all key [] lines in
      record {
        whole = refl;
        lines = interned-lines [] lines (All-nil IsLine) (lines_of-are-lines input);
        known = All-from_recursion (λ n. n < length all) (issue key lines) (issued-known all [] lines refl);
      }

  -- so the output is decoded to the first spellings of the lines
  pub decodes-first : (input : List ℕ) →
      Decodes (encoded_by key input) (flat_map spelling_line (first_spellings key (lines_of input)))
  decodes-first input =
      let lines = lines_of input in
      let all = interned_all key [] lines in
      record {
        symbols = issue key lines;
        spellings = all;
        holds = holds-encoded input;
        same = grind (arith, common_steps, issued-spellings lines all [] lines (found-all [] lines) refl, flat_map-map spelling_line (λ n. get_or all n []) (issue key lines));
      }

  -- what is found is a line with the key, as what it is sought for
  found-one : (xs : List (List ℕ)) (c : List ℕ) (k : Key) → AllByRecursion IsLine xs →
      IsLine c × (key c ≡ k) → IsLine (unwrap_or (found xs k) c) × (key (unwrap_or (found xs k) c) ≡ k)
  found-one [] c k all is = is
  found-one (x ∷ xs) c k all is = grind (arith, common_steps, key_eq-decides (key x) k, found-one xs c k all.1)

  -- the first spellings are lines with the keys of the lines, and they are these if equal lines are the same
  pub firsts : (lines rest : List (List ℕ)) → AllByRecursion IsLine lines → AllByRecursion IsLine rest →
      AllByRecursion IsLine (map (first_equal key lines) rest)
      × (map key (map (first_equal key lines) rest) ≡ map key rest)
      × (((a b : List ℕ) → key a ≡ key b → a ≡ b) → map (first_equal key lines) rest ≡ rest)
  firsts lines [] all more = (tt, refl, λ _. refl)
  firsts lines (line ∷ rest) all more =
      let one = found-one lines line (key line) all (more.0, refl) in
      let next = firsts lines rest all more.1 in (
        (one.0, next.0),
        rw (one.1, next.1) refl,
        λ alike. rw (alike (first_equal key lines line) line one.1, next.2 alike) refl,
      )

  -- line by line, what is decoded has the keys of the input
  pub decoded-keys : (input : List ℕ) →
      map key (lines_of (flat_map spelling_line (first_spellings key (lines_of input))))
      ≡ map key (lines_of input)
  decoded-keys input = grind (arith, common_steps, lines_of-flat_map, lines_of-are-lines, firsts)
