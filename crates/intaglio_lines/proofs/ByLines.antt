-- What holds of the lines of bytes, line by line.
use Rattle.intaglio_lines.proofs.Names.{common_steps, flat_map, All, AllByRecursion, IsUtf8, slice_split_at, slice_split_none, length-slice_split, All-nil, All-cons, All-append, cases_eq, lines_of, spelling_line, IsLine, is_ended, with_last_line_ended}
use Rattle.std.proofs.Common.{◌≡◌, ◌≢◌, ◌∙◌, sym, refl, subst, inl, inr, ℕ, suc, ◌<◌, ◌≤◌, true, false, eqb, ne_eqb, List, [], ◌∷◌, ◌++◌, length, append_assoc, append-nil, length-append, arith}
use Rattle.std.proofs.lemmas.Str.Ascii.{IsAscii-cons, IsAscii-nil}
use Rattle.std.proofs.lemmas.Str.{IsUtf8-nil, IsUtf8-append, IsUtf8-from_ascii}
use Rattle.intaglio_lines.specs.Cuts.{IsUtf8-parts}
use Rattle.intaglio_lines.proofs.LineCuts.{without_empty_last-cons, without_empty_last-one}

module _ (P : List ℕ → Type 0) (nothing : P []) (last : (line : List ℕ) → 0 < length line →
    IsLine line → P line)
    (more : (line rest : List ℕ) → IsLine line → P rest → P (line ++ 10 ∷ rest)) where
  no-more : (line : List ℕ) → IsLine line → P (line ++ [])
  no-more [] is = nothing
  no-more (byte ∷ line) is = subst P (sym (append-nil (byte ∷ line))) (last (byte ∷ line) (omega arith) is)

  next-byte : (byte : ℕ) (bytes line : List ℕ) → IsLine line →
      ((front : List ℕ) → IsLine front → P (front ++ bytes)) → P (line ++ byte ∷ bytes)
  next-byte byte bytes line is go =
      elim (cases_eq byte 10) as (λ _. P (line ++ byte ∷ bytes)) [
        | inl ten ↦
            subst (λ b. P (line ++ b ∷ bytes)) (sym ten) (more line bytes is (go [] (All-nil (λ b. b ≢ 10))))
        | inr other ↦
            subst P (append_assoc line (byte ∷ []) bytes)
            (go (line ++ byte ∷ [])
            (All-append (λ b. b ≢ 10) line (byte ∷ []) is
            (All-cons (λ b. b ≢ 10) byte [] other (All-nil (λ b. b ≢ 10)))))
      ]

  -- behind a line that hasn't ended yet
  behind : (bytes line : List ℕ) → IsLine line → P (line ++ bytes)
  behind [] line is = no-more line is
  behind (byte ∷ bytes) line is = next-byte byte bytes line is (behind bytes)

  -- what holds of nothing, of a line that isn't ended, and of a line with byte 10 and bytes of
  -- which it holds, holds of all bytes
  pub by-lines : (bytes : List ℕ) → P bytes
  by-lines bytes = behind bytes [] (All-nil (λ b. b ≢ 10))

-- the test for byte 10 is false for each byte of a line
no-ten : (line : List ℕ) → IsLine line → All (λ b. eqb b 10 ≡ false) line
no-ten line is = λ k d lt. ne_eqb _ 10 (is k d lt)

-- the lines of a line, a byte 10 and a rest are that line and the lines of the rest
pub lines_of-more : (line rest : List ℕ) → IsLine line → lines_of (line ++ 10 ∷ rest) ≡ line ∷ lines_of rest
lines_of-more line rest is = grind (arith, eqb, slice_split_at, no-ten, without_empty_last-cons, length-slice_split)

-- the lines of a line that isn't empty are that line alone
pub lines_of-last : (line : List ℕ) → 0 < length line → IsLine line → lines_of line ≡ line ∷ []
lines_of-last line some is = grind (arith, slice_split_none, eqb, no-ten, without_empty_last-one)

-- no line holds a byte 10
pub lines_of-are-lines : (bytes : List ℕ) → AllByRecursion IsLine (lines_of bytes)
lines_of-are-lines =
    by-lines (λ bytes. AllByRecursion IsLine (lines_of bytes)) tt
    (λ line some is. rw (lines_of-last line some is) (is, tt))
    (λ line rest is all. rw (lines_of-more line rest is) (is, all))

-- a line has its byte 10 or is the last
pub length-lines_of : (bytes : List ℕ) → length (lines_of bytes) ≤ length bytes
length-lines_of =
    by-lines (λ bytes. length (lines_of bytes) ≤ length bytes) (omega arith)
    (λ line some is. rw (lines_of-last line some is) (omega arith))
    (λ line rest is few. rw (lines_of-more line rest is) (omega (arith, length-append line (10 ∷ rest))))

-- a line without its byte 10 isn't ended, if it isn't empty
is_ended-line : (line : List ℕ) → 0 < length line → IsLine line → is_ended line ≡ false
is_ended-line [] some is = absurd (omega arith)
is_ended-line (byte ∷ []) some is = ne_eqb byte 10 (is 0 0 (omega arith))
is_ended-line (byte ∷ next ∷ more) some is =
    is_ended-line (next ∷ more) (omega arith) (λ k d lt. is (suc k) d (omega arith))

-- bytes in front of others don't change whether these are ended, if these aren't empty
is_ended-append : (front : List ℕ) (byte : ℕ) (rest : List ℕ) →
    is_ended (front ++ byte ∷ rest) ≡ is_ended (byte ∷ rest)
is_ended-append [] byte rest = refl
is_ended-append (first ∷ []) byte rest = refl
is_ended-append (first ∷ next ∷ front) byte rest = is_ended-append (next ∷ front) byte rest

-- bytes and a byte 10 in front of others don't change whether these are ended
is_ended-more : (line rest : List ℕ) → is_ended (line ++ 10 ∷ rest) ≡ is_ended rest
is_ended-more line [] = is_ended-append line 10 []
is_ended-more line (byte ∷ rest) = is_ended-append line 10 (byte ∷ rest)

-- the lines, each ended, are the bytes with their last line ended
pub flat_map-lines_of : (bytes : List ℕ) →
    flat_map spelling_line (lines_of bytes) ≡ with_last_line_ended bytes
flat_map-lines_of =
    by-lines (λ bytes. flat_map spelling_line (lines_of bytes) ≡ with_last_line_ended bytes) refl
    (λ line some is. grind (arith, common_steps, lines_of-last line some is, is_ended-line line some is))
    (λ line rest is same. grind (arith, common_steps, lines_of-more line rest is, is_ended-more line rest, same, append_assoc))

-- lines that are ended are those lines
pub lines_of-flat_map : (lines : List (List ℕ)) → AllByRecursion IsLine lines →
    lines_of (flat_map spelling_line lines) ≡ lines
lines_of-flat_map [] all = refl
lines_of-flat_map (line ∷ lines) all = grind (arith, append_assoc line (10 ∷ []) (flat_map spelling_line lines), lines_of-more line (flat_map spelling_line lines) all.0, lines_of-flat_map lines all.1)

-- lines with a byte 10 behind each are bytes that are ended
pub is_ended-flat_map : (lines : List (List ℕ)) → is_ended (flat_map spelling_line lines) ≡ true
is_ended-flat_map [] = refl
is_ended-flat_map (line ∷ lines) = grind (arith, append_assoc line (10 ∷ []) (flat_map spelling_line lines), is_ended-more line (flat_map spelling_line lines), is_ended-flat_map lines)

-- ended bytes with ended bytes behind them are ended
pub ended-append : (front rest : List ℕ) → is_ended front ≡ true → is_ended rest ≡ true →
    is_ended (front ++ rest) ≡ true
ended-append front [] ended end = subst (λ t. is_ended t ≡ true) (sym (append-nil front)) ended
ended-append front (byte ∷ rest) ended end = is_ended-append front byte rest ∙ end

-- behind whole lines come the lines of the rest
pub lines_of-append : (front rest : List ℕ) → is_ended front ≡ true →
    lines_of (front ++ rest) ≡ lines_of front ++ lines_of rest
lines_of-append front rest =
    by-lines (λ front. is_ended front ≡ true → lines_of (front ++ rest) ≡ lines_of front ++ lines_of rest)
    (λ ended. refl)
    (λ line some is ended. grind (arith, is_ended-line line some is))
    (λ line more is same ended. grind (arith, append_assoc line (10 ∷ more) rest, lines_of-more line (more ++ rest) is, lines_of-more line more is, same, is_ended-more line more))
    front

-- a text that is cut behind a byte 10 gives two texts
pub texts : (front rest : List ℕ) → is_ended front ≡ true → IsUtf8 (front ++ rest) →
    IsUtf8 front × IsUtf8 rest
texts front rest =
    by-lines (λ front. is_ended front ≡ true → IsUtf8 (front ++ rest) → IsUtf8 front × IsUtf8 rest)
    (λ ended text. (IsUtf8-nil, text))
    (λ line some is ended. grind (arith, is_ended-line line some is))
    (λ line more is parts ended text.
    let cut = IsUtf8-parts line (more ++ rest) (rw (append_assoc line (10 ∷ more) rest) at text) in
    let both = parts (sym (is_ended-more line more) ∙ ended) cut.1 in
    let end = IsUtf8-from_ascii (10 ∷ []) (IsAscii-cons 10 [] (omega arith) IsAscii-nil) in
    (IsUtf8-append line (10 ∷ more) cut.0 (IsUtf8-append (10 ∷ []) more end both.0), both.1))
    front

-- each line takes a byte at least
pub length-le-flat_map : (lines : List (List ℕ)) → length lines ≤ length (flat_map spelling_line lines)
length-le-flat_map [] = omega arith
length-le-flat_map (line ∷ lines) = omega (arith, length-append (spelling_line line) (flat_map spelling_line lines), length-append line (10 ∷ []), length-le-flat_map lines)
