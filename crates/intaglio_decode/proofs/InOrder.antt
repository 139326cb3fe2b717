-- What is decoded is encoded as before, where the symbols are issued in order and no two spellings are equal.
use Rattle.intaglio_decode.proofs.Names.{common_steps, All, AllByRecursion, length-map, map-append, length-take-le, get_or-map, take_more, take_all, All-map, recursion_from_All, flat_map-map, Key, State, first, Distinct, interned, issue_from, interned_all, first-some, some-below, cut-keeps, spelling_line, encoded_by, IsLine, Holds, decoded, AreInOrder, lines_of-flat_map}
use Rattle.std.proofs.Common.{◌≡◌, refl, ℕ, ◌+◌, ◌<◌, ◌≤◌, max, List, [], ◌∷◌, length, map, take, get_or, Some, length-append, arith}
use Rattle.intaglio_core.proofs.Kept.{distinct-push}

-- a state with these contents
abbrev holding : List (List ℕ) → State (List ℕ)
holding contents = record { contents = contents; spare = 0; buckets = 0; limit = 0 }

module _ (key : List ℕ → Key) (spellings : List (List ℕ)) (distinct : Distinct key spellings) where
  abbrev spelling_at : ℕ → List ℕ
  spelling_at n = get_or spellings n []

  -- each spelling is found at its number
  found-at : (n : ℕ) → n < length spellings → first key spellings (key (spelling_at n)) ≡ Some n
  found-at n within = grind (arith, common_steps, length-map, get_or-map, first-some (map key spellings) (key (spelling_at n)) n, distinct)

  -- what stands behind the symbols issued so far
  record Goes (next : ℕ) (symbols : List ℕ) : Type 0 where
    same : issue_from key (take next spellings) (map spelling_at symbols) ≡ symbols
    held : interned_all key (take next spellings) (map spelling_at symbols) ≡ spellings

  goes : (next : ℕ) (symbols : List ℕ) → next ≤ length spellings →
      AllByRecursion (λ symbol. symbol < length spellings) symbols
      → AreInOrder next symbols (length spellings) → Goes next symbols
  goes next [] within known order =
      record { same = refl; held = take_all next spellings (omega (arith, order)) }
  goes next (n ∷ symbols) within known order =
      let front = cut-keeps key (holding spellings) next (holding (take next spellings)) within refl in
      let go = goes (max next (n + 1)) symbols (omega (arith, known.0)) known.1 order.1 in
      grind (arith, common_steps, known.0, order.0, front.found (key (spelling_at n)) n, front.dropped (key (spelling_at n)) n, found-at n, take_more spellings next [], length-take-le next spellings, go.same, go.held)

  -- so encoding what such symbols stand for gives the bytes that hold them
  pub encodes-decoded : (symbols bytes : List ℕ) → Holds symbols spellings bytes →
      AreInOrder 0 symbols (length spellings)
      → encoded_by key (decoded symbols spellings) ≡ bytes
  encodes-decoded symbols bytes holds order =
      let known = recursion_from_All (λ symbol. symbol < length spellings) symbols holds.known in
      let spelled : All IsLine (map spelling_at symbols) =
      All-map IsLine spelling_at symbols (λ i d lt. holds.lines (get_or symbols i d) [] (holds.known i d lt)) in
      let go = goes 0 symbols (omega arith) known order in
      grind (arith, common_steps, go.same, go.held, holds.whole, flat_map-map spelling_line spelling_at symbols, lines_of-flat_map (map spelling_at symbols) (recursion_from_All IsLine (map spelling_at symbols) spelled))

module _ (key : List ℕ → Key) where
  -- the symbols of lines are issued in order
  pub issue-in-order : (held cs : List (List ℕ)) →
      AreInOrder (length held) (issue_from key held cs) (length (interned_all key held cs))
  issue-in-order held [] = refl
  issue-in-order held (c ∷ cs) = grind (arith, common_steps, length-append, some-below (map key held) (key c), length-map, issue-in-order (interned key held c) cs)

  -- and no two of the spellings that are held are equal
  pub distinct-interned_all : (held cs : List (List ℕ)) → Distinct key held →
      Distinct key (interned_all key held cs)
  distinct-interned_all held [] apart = apart
  distinct-interned_all held (c ∷ cs) apart =
      distinct-interned_all (interned key held c) cs (grind (arith, common_steps, map-append, distinct-push (map key held) (key c) apart))
