-- An entry more.
use Rattle.std.proofs.Common.{◌≡◌, ◌≢◌, ℕ, ◌+◌, ◌*◌, ◌%◌, ◌<◌, ◌≤◌, List, [], ◌∷◌, ◌++◌, length, get_or, set, arith, inl, inr, mod-lt, vec_capacity}
use Rattle.intaglio_records.proofs.Names.{get_or-set_other, length-set, Line, Entry, IsLine, first_line, newest_length, overflow, newest, no_line, AreChains, IsFilled, firsts_of, Lines}
use Rattle.intaglio_records.proofs.ChainLemmas.{add-length, newest-add, newest-at, behind-add, chains-first, chains-new, read-line}
use Rattle.intaglio_records.proofs.Searching.{next-line}
use Rattle.intaglio_records.proofs.Tops.{first-other, first-here, first-full, overflow-same, overflow-add, overflow-new, is-top, top-few, needed}

-- lines with the same room are filled with other entries if their chains have these
pub refilled : (old new : Lines) (es fs : List Entry) → IsFilled old es → new.base ≡ old.base →
    vec_capacity new.lines ≡ vec_capacity old.lines → length fs ≤ 8 * new.base →
    AreChains new.base new.lines.items (firsts_of new.base fs) (overflow new.base fs) → IsFilled new fs
refilled old new es fs is base room few chains =
    record {
      chains = chains;
      power = rw base is.power;
      few = few;
      reserved = omega (arith, base, room, is.reserved);
      tight = omega (arith, base, room, is.tight);
      small = omega (arith, base, is.small);
    }

module _ (base k : ℕ) (e : Entry) (es : List Entry) (lines : List Line) (some : 0 < base) (at : k ≡ e.0 % base)
    (are : AreChains base lines (firsts_of base es) (overflow base es)) where
  -- the first line of its class takes an entry, if it isn't full
  pub place-first : (x : Line) → length (first_line base k es) < 11 →
      IsLine x (e ∷ first_line base k es) (newest base k (overflow base es)) →
      AreChains base (set lines k x) (firsts_of base (e ∷ es)) (overflow base (e ∷ es))
  place-first = rw at (λ x lt is. rw (overflow-same base e es lt)
      (chains-first base (e.0 % base) lines (firsts_of base es) (firsts_of base (e ∷ es)) (overflow base es) x
      (mod-lt e.0 some) are (λ k other. first-other base k e es other) (rw (first-here base e es lt) is)))

  -- if the first line is full, the newest overflow line takes it, if that isn't full
  pub place-add : (x : Line) (n : ℕ) → n ≡ newest base k (overflow base es) → 0 < n →
      11 ≤ length (first_line base k es) → newest_length k (overflow base es) < 11 →
      ((xs : List Entry) (next : ℕ) → IsLine (get_or lines n no_line) xs next → IsLine x (e ∷ xs) next) →
      AreChains base (set lines n x) (firsts_of base (e ∷ es)) (overflow base (e ∷ es))
  place-add = rw at (λ x n is there full lt put.
      let c = e.0 % base in let os = overflow base es in
      rw (overflow-add base e es full lt) (record {
        size = omega (arith, length-set lines n x, are.size, add-length c e os);
        firsts_are = λ k lt. rw (
          newest-add base k c e os,
          first-full base e es full k,
          get_or-set_other lines n k x no_line (λ same. omega (arith, is, there, lt, same, (newest-at base c os).0)),
        ) (are.firsts_are k lt);
        behind = behind-add base c n e lines x os is there (omega (arith, are.size)) put are.behind;
      }))

  -- if both are full, a new overflow line takes it
  pub place-new : (x y : Line) → 11 ≤ length (first_line base k es) → 11 ≤ newest_length k (overflow base es) →
      IsLine x (e ∷ []) (newest base k (overflow base es)) → IsLine y (first_line base k es) (length lines) →
      AreChains base (set (lines ++ x ∷ []) k y) (firsts_of base (e ∷ es)) (overflow base (e ∷ es))
  place-new = rw at (λ x y full none first leads.
      let new = chains-new base (e.0 % base) e lines (firsts_of base es) (overflow base es) x y
      (mod-lt e.0 some) are first leads in
      rw (overflow-new base e es full none) (record {
        size = new.size;
        firsts_are = λ k lt. rw (first-full base e es full k) (new.firsts_are k lt);
        behind = new.behind;
      }))

-- a class whose lines are all full
pub all-full : (base c : ℕ) (es : List Entry) → 0 < base → c < base → 11 ≤ length (first_line base c es) →
    11 ≤ newest_length c (overflow base es) → 11 * length (overflow base es) + 11 ≤ length es
all-full base c es some within full none =
    needed base c es some within (elim (is-top base c es some) [
      | inl h ↦ omega (arith, h.1, full, top-few base c es)
      | inr h ↦ omega (arith, h.2, none, top-few base c es)
    ])

-- lines that were read
module _ (lines : Lines) (es : List Entry) (filled : IsFilled lines es) (c : ℕ) where
  -- the first line of a class has the oldest of its entries, and leads to the newest overflow line
  pub first-is : c < lines.base → (x : Line) → x ≡ get_or lines.lines.items c x →
      IsLine x (first_line lines.base c es) (newest lines.base c (overflow lines.base es))
  first-is within x e = read-line lines.lines.items c x _ _ (omega (arith, within, filled.chains.size)) e
      (filled.chains.firsts_are c within)

  module _ (n : ℕ) (is : n ≡ newest lines.base c (overflow lines.base es)) where
    -- the number to which the first line leads is below the number of lines
    pub newest-in : 0 < lines.base + n → n < length lines.lines.items
    newest-in some =
        omega (arith, is, some, (newest-at lines.base c (overflow lines.base es)).1, filled.chains.size)

    -- if it isn't 0, the line of that number has as many entries as the newest overflow line
    pub other-is : n ≢ 0 → (x : Line) → x ≡ get_or lines.lines.items n x →
        (xs : List Entry) × (older : ℕ) × IsLine x xs older
        × (newest_length c (overflow lines.base es) ≡ length xs)
    other-is some x e =
        let found =
        next-line lines.base c 0 n lines.lines.items (overflow lines.base es) filled.chains.behind is
        (omega (arith, some)) in (
          found.0,
          newest lines.base c found.1,
          read-line lines.lines.items n x _ _ (newest-in (omega (arith, some))) e found.2,
          found.7,
        )
