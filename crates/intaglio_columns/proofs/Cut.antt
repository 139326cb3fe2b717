-- Where the first piece of bytes ends: a line, or a code of four bytes.
use Rattle.intaglio_columns.proofs.Names.{common_steps, position, prefix_len, slice_get, AllByRecursion, length-map, length-take, take-append-drop, take_rest, slice_get-map, lines_of, IsLine, lines_of-are-lines, lines_of-more, code_of, code_pieces, codes_of, StartsWith, last_piece}
use Rattle.std.proofs.Common.{◌≡◌, ◌∙◌, sym, ap, refl, subst, ℕ, zero, suc, ◌+◌, ◌-◌, ◌*◌, ◌/◌, ◌%◌, ◌≤◌, Bool, true, eqb, eq-eqb, ltb, not, cond, length-drop, List, [], ◌∷◌, ◌++◌, length, take, drop, get_or, Option, None, Some, option_map, append_assoc, arith}
use Rattle.std.proofs.lemmas.List.Folds.{prefix_len-append}
use Rattle.intaglio_lines.proofs.LineCuts.{lines-cut-at, lines-cut-nowhere, position-None, position-Some, whole-cut-at}

-- bytes with a byte 10 begin with the line before the first one and go on behind it, whatever follows them
pub line-starts : (bytes : List ℕ) (end : ℕ) → position (λ b. eqb b 10) bytes ≡ Some end →
    StartsWith lines_of bytes (take end bytes ∷ []) (drop (end + 1) bytes)
line-starts bytes end is more =
    let rest = drop (end + 1) bytes in
    let cut : take (length bytes - (end + 1)) rest ≡ rest = take_rest bytes (end + 1) in
    let lines : AllByRecursion IsLine (take end bytes ∷ lines_of (take (length bytes - (end + 1)) rest)) =
    subst (AllByRecursion IsLine) (lines-cut-at bytes end is) (lines_of-are-lines bytes) in
    let whole : bytes ≡ take end bytes ++ 10 ∷ rest =
    whole-cut-at bytes end is ∙ ap (λ t. take end bytes ++ 10 ∷ t) cut in
    ap (λ t. lines_of (t ++ more)) whole ∙ ap lines_of (append_assoc (take end bytes) (10 ∷ rest) more)
    ∙ lines_of-more (take end bytes) (rest ++ more) lines.0

-- bytes without a byte 10 are one line, or none if there are no bytes
pub line-last : (bytes : List ℕ) → position (λ b. eqb b 10) bytes ≡ None → lines_of bytes ≡ last_piece bytes
line-last [] is = refl
line-last (b ∷ bytes) is = lines-cut-nowhere (b ∷ bytes) is (omega arith)

-- a byte 10 behind bytes that have none
cond-behind : (n m l : ℕ) →
    cond (ltb (n + m) (n + l)) (Some (n + m)) None ≡ option_map (λ k. n + k) (cond (ltb m l) (Some m) None)
cond-behind n m l = grind (arith, common_steps)

-- if the first n bytes have no byte 10, the first one of all is n further on than in the bytes behind those
pub position-behind : (bytes : List ℕ) (n : ℕ) (end : Option ℕ) → n ≤ length bytes →
    position (λ b. eqb b 10) (take n bytes) ≡ None
    → end ≡ position (λ b. eqb b 10) (take (length bytes - n) (drop n bytes))
    → position (λ b. eqb b 10) bytes ≡ option_map (λ k. n + k) end
position-behind bytes n end within none place =
    let q : ℕ → Bool = λ b. not (eqb b 10) in
    let first : prefix_len q (take n bytes) ≡ length (take n bytes) =
    position-None (λ b. eqb b 10) (take n bytes) none in
    let long : length (take n bytes) ≡ n = omega (arith, length-take n bytes) in
    let past : eqb (prefix_len q (take n bytes)) (length (take n bytes)) ≡ true = eq-eqb _ _ first in
    let all : prefix_len q bytes ≡ n + prefix_len q (drop n bytes) =
    ap (prefix_len q) (sym (take-append-drop n bytes))
    ∙ rw (prefix_len-append q (take n bytes) (drop n bytes), past, long) refl in
    let size : length bytes ≡ n + length (drop n bytes) = omega (arith, length-drop n bytes) in
    rw (all, size) (cond-behind n (prefix_len q (drop n bytes)) (length (drop n bytes))
    ∙ ap (option_map (λ k. n + k)) (sym (rw (take_rest bytes n) at place)))

-- bytes that are at most one piece have no byte 10
pub no-end : (bytes : List ℕ) → lines_of bytes ≡ last_piece bytes → position (λ b. eqb b 10) bytes ≡ None
no-end [] is = refl
no-end (x ∷ bytes) is = by-end (position (λ b. eqb b 10) (x ∷ bytes)) refl
  where
    by-end : (end : Option ℕ) → position (λ b. eqb b 10) (x ∷ bytes) ≡ end →
        position (λ b. eqb b 10) (x ∷ bytes) ≡ None
    by-end None at = at
    by-end (Some end) at =
        let cut : take end (x ∷ bytes)
        ∷ lines_of (take (length (x ∷ bytes) - (end + 1)) (drop (end + 1) (x ∷ bytes))) ≡ (x ∷ bytes) ∷ [] =
        sym (lines-cut-at (x ∷ bytes) end at) ∙ is in
        let same : take end (x ∷ bytes) ≡ x ∷ bytes = cc in
        absurd (omega (
          arith,
          ap length same,
          length-take end (x ∷ bytes),
          (position-Some (λ b. eqb b 10) (x ∷ bytes) end at).1,
          (position-Some (λ b. eqb b 10) (x ∷ bytes) end at).0,
        ))

-- 4 * n bytes are cut into n pieces
pieces-count : (bytes : List ℕ) (n : ℕ) → length bytes ≡ 4 * n → length (code_pieces bytes) ≡ n
pieces-count [] n long = omega arith
pieces-count (a ∷ []) n long = absurd (omega arith)
pieces-count (a ∷ b ∷ []) n long = absurd (omega arith)
pieces-count (a ∷ b ∷ c ∷ []) n long = absurd (omega arith)
pieces-count (a ∷ b ∷ c ∷ d ∷ bytes) zero long = absurd (omega arith)
pieces-count (a ∷ b ∷ c ∷ d ∷ bytes) (suc n) long = omega (arith, pieces-count bytes n (omega arith))

-- four bytes are a code
pub codes-count : (bytes : List ℕ) → length bytes % 4 ≡ 0 → length bytes ≡ 4 * length (codes_of bytes)
codes-count bytes whole =
    let long : length bytes ≡ 4 * (length bytes / 4) = omega (arith, whole) in
    omega (arith, pieces-count bytes (length bytes / 4) long, length-map (code_pieces bytes) code_of, long)

-- if there are at least 4 * n + 4 bytes, piece n has the four bytes from 4 * n on
piece-at : (bytes : List ℕ) (n : ℕ) → 4 * n + 4 ≤ length bytes
    → slice_get (code_pieces bytes) n
    ≡ Some (get_or bytes (4 * n) 0 ∷ get_or bytes (4 * n + 1) 0 ∷ get_or bytes (4 * n + 2) 0
    ∷ get_or bytes (4 * n + 3) 0 ∷ [])
piece-at [] n within = absurd (omega arith)
piece-at (a ∷ []) n within = absurd (omega arith)
piece-at (a ∷ b ∷ []) n within = absurd (omega arith)
piece-at (a ∷ b ∷ c ∷ []) n within = absurd (omega arith)
piece-at (a ∷ b ∷ c ∷ d ∷ bytes) zero within = refl
piece-at (a ∷ b ∷ c ∷ d ∷ bytes) (suc n) within =
    let same : 4 * suc n ≡ suc (suc (suc (suc (4 * n)))) = omega arith in
    let at : (j : ℕ) → 4 * suc n + j ≡ suc (suc (suc (suc (4 * n + j)))) = λ j. omega arith in
    rw (at 1, at 2, at 3, same) (piece-at bytes n (omega arith))

-- if there are at least 4 * n + 4 bytes, code n is that of the four bytes from 4 * n on
pub code-at : (bytes : List ℕ) (n : ℕ) → 4 * n + 4 ≤ length bytes
    → slice_get (codes_of bytes) n
    ≡ Some (code_of (get_or bytes (4 * n) 0 ∷ get_or bytes (4 * n + 1) 0 ∷ get_or bytes (4 * n + 2) 0
    ∷ get_or bytes (4 * n + 3) 0 ∷ []))
code-at bytes n within = slice_get-map code_of (code_pieces bytes) n
    ∙ ap (option_map code_of) (piece-at bytes n within)
