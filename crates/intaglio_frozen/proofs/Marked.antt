-- The check that a group of strings has no places, step by step.
use Rattle.intaglio_frozen.proofs.Names.{common_steps, cases_eq, groups_for, scaled, group_at, place_under, IsBeforeAt, IsEarlierAt, HasNoPlace, AreMembers, AreMarked, taken_mark}
use Rattle.std.proofs.Common.{◌≡◌, ◌≢◌, ℕ, ◌+◌, ◌<◌, ◌==◌, inl, inr, Bool, List, [], ◌∷◌, ◌++◌, length, get_or, set, take, sym, ap, ◌∙◌, arith, count_by, get_or-set_same, get_or-set_other}

-- whether a hash is one of a group
abbrev pub is_in : List ℕ → ℕ → ℕ → Bool
is_in hs g h = scaled (groups_for (length hs)) h == g

-- one more string of a group is counted
pub counted-more : (hs sizes : List ℕ) (i at x g : ℕ) → i < length hs → at ≡ group_at hs i →
    at < length sizes → x ≡ get_or sizes at 0 + 1 →
    get_or sizes g 0 ≡ count_by (is_in hs g) (take i hs) →
    get_or (set sizes at x) g 0 ≡ count_by (is_in hs g) (take (i + 1) hs)
counted-more hs sizes i at x g l is within more so_far = grind (arith, common_steps)

-- one more string of a group, behind its others, is one of its members
module _ (hs ms : List ℕ) (g i : ℕ) (before : (k : ℕ) → k < length ms → get_or ms k 0 < i) where
  pub members-before : (k : ℕ) → k < length (ms ++ i ∷ []) → get_or (ms ++ i ∷ []) k 0 < i + 1
  members-before k below = grind (arith, common_steps, before k)

  pub members-more : i < length hs → group_at hs i ≡ g → AreMembers hs g ms → AreMembers hs g (ms ++ i ∷ [])
  members-more there group old = record {
    there = λ k below. grind (arith, common_steps, old.there k);
    group = λ k below. grind (arith, common_steps, old.group k);
    order = λ j k less below. grind (arith, common_steps, before j, old.order j k);
  }

-- a place that is marked stays so when one more is
pub stays-taken : (marks : List ℕ) (at p : ℕ) → at < length marks → get_or marks p 0 ≡ taken_mark →
    get_or (set marks at taken_mark) p 0 ≡ taken_mark
stays-taken marks at p within e = elim (cases_eq p at) [
  | inl same ↦ rw same (get_or-set_same marks at taken_mark 0 within)
  | inr other ↦ get_or-set_other marks at p taken_mark 0 other ∙ e
]

module _ (hs : List ℕ) (pilots : ℕ → ℕ) (g : ℕ) where
  -- one more place of a group before is marked
  pub marked-more : (marks : List ℕ) (n at i : ℕ) → at < length marks → IsBeforeAt hs pilots g at i →
      AreMarked hs pilots g marks n → AreMarked hs pilots g (set marks at taken_mark) n
  marked-more marks n at i l is old = record {
    taken = λ p e. elim (cases_eq p at) [
      | inl same ↦ (i, rw same is)
      | inr other ↦ old.taken p (sym (get_or-set_other marks at p taken_mark 0 other) ∙ e)
    ];
    others = λ p d. elim (cases_eq p at) [
      | inl same ↦
          absurd (d (ap (λ x. get_or (set marks at taken_mark) x 0) same
          ∙ get_or-set_same marks at taken_mark 0 l))
      | inr other ↦
          grind (arith, get_or-set_other marks at p taken_mark 0 other, old.others p)
    ];
  }

  -- the strings before n that are in groups before have places of their own, which are marked
  pub record AreOwn (marks : List ℕ) (n : ℕ) : Type 0 where
    pub marked : (p i : ℕ) → i < n → IsBeforeAt hs pilots g p i → get_or marks p 0 ≡ taken_mark
    pub own : (p i j : ℕ) → i < j → j < n → IsBeforeAt hs pilots g p i → ¬ IsBeforeAt hs pilots g p j

  -- one more string is in a group before, and its place, which wasn't marked, is; or it is in no such group
  pub own-more : (marks next : List ℕ) (n : ℕ)
      → ((p : ℕ) → get_or marks p 0 ≡ taken_mark → get_or next p 0 ≡ taken_mark)
      → ((p : ℕ) → IsBeforeAt hs pilots g p n → (get_or marks p 0 ≢ taken_mark) × (get_or next p 0 ≡ taken_mark))
      → AreOwn marks n → AreOwn next (n + 1)
  own-more marks next n kept this old = record {
    marked = λ p i b is. elim (cases_eq i n) [
      | inl last ↦ (this p (rw last at is)).1
      | inr other ↦ kept p (old.marked p i (omega (arith, b, other)) is)
    ];
    own = λ p i j l b is also. elim (cases_eq j n) [
      | inl last ↦ (this p (rw last at also)).0 (old.marked p i (omega (arith, l, last)) is)
      | inr other ↦ old.own p i j l (omega (arith, b, other)) is also
    ];
  }

  -- the marks after k of these strings were tried under the pilot q
  pub record AreTried (members : List ℕ) (q : ℕ) (marks : List ℕ) (k : ℕ) : Type 0 where
    pub marked : AreMarked hs pilots g marks (q + 1)
    pub mine : (p : ℕ) → get_or marks p 0 ≡ q + 1 →
        (a : ℕ) × (a < k) × (place_under hs (get_or members a 0) q ≡ p)

  module _ (members : List ℕ) (q : ℕ) (marks : List ℕ) (k at : ℕ) (are : AreMembers hs g members)
      (l : k < length members) (is : place_under hs (get_or members k 0) q ≡ at)
      (old : AreTried members q marks k) where
    -- the place of a string is that of a group before
    pub place-taken : get_or marks at 0 ≡ taken_mark → (j : ℕ) × HasNoPlace hs pilots g q j
    place-taken e =
        let found = old.marked.taken at e in (
          get_or members k 0,
          record {
            there = are.there k l;
            group = are.group k l;
            taken = (found.0, inl (rw is found.1));
          },
        )

    -- the place of a string is that of one of the same group
    pub place-tried : get_or marks at 0 ≡ q + 1 → (j : ℕ) × HasNoPlace hs pilots g q j
    place-tried e =
        let found = old.mine at e in
        let here : IsEarlierAt hs g q (place_under hs (get_or members k 0) q) (get_or members k 0)
        (get_or members found.0 0) = record {
          earlier = are.order found.0 k found.1 l;
          group = are.group found.0 (omega (arith, found.1, l));
          place = found.2 ∙ sym is;
        } in (
          get_or members k 0,
          record {
            there = are.there k l;
            group = are.group k l;
            taken = (get_or members found.0 0, inr here);
          },
        )
