-- A column and maps that meet.
use Rattle.std.proofs.Common.{◌≡◌, ◌≢◌, ◌∙◌, ℕ, suc, ◌^◌, ◌<◌, ◌≤◌, inl, inr, cond, List, [], ◌∷◌, ◌++◌, length, get_or, Option, Some, unwrap_or, refl, sym, ap, arith, eq-eqb, Bool, true, false, nat_lt, map, subst}
use Rattle.intaglio_columns.proofs.Names.{flat_map, slice_get, All, ne_eqb, get_or_past, length-map, get_or_from_slice_get, slice_get-get_or, slice_get_within, IsMap, renumber, same-string, AreCodes, IsCode, code_line, string_at, common_steps, nat_tests, RowSource, IsColumn, shards, source_of, strings, fits, IsMapColumn, joined, joined_map, sum_of, maps-join, KeepsLines, LeadAlike, Meet, joined_codes, source_for}
use Rattle.intaglio_frozen.specs.Merging.{missing}
use Rattle.intaglio_columns.specs.Layout.{codes}
use Rattle.intaglio_columns.proofs.JoinedMaps.{joined-length, joined-rows}

module _ (old new : List (List ℕ)) (text : Option (List ℕ)) (numbers : List ℕ) (n : ℕ)
    (is : IsMap old new numbers) (few : length new ≤ missing) (long : length numbers ≡ n)
    (small : n < 2 ^ 32) where
  as-long : length old ≡ n
  as-long = sym (length-map old (λ (w : List ℕ). Some w)) ∙ sym (ap length is)
      ∙ length-map numbers (λ (c : ℕ). slice_get new c) ∙ long

  -- the string of a symbol, which isn't the missing code
  of-symbol : (strings : List (List ℕ)) (code : ℕ) (w : List ℕ) → length strings ≤ missing →
      slice_get strings code ≡ Some w → string_at strings text code ≡ w
  of-symbol strings code w most at =
      let other : code ≢ missing = λ e. omega (arith, e, most, slice_get_within strings code w at) in
      rw (ne_eqb code missing other) (get_or_from_slice_get strings code w [] at)

  of-missing : (strings : List (List ℕ)) (code : ℕ) → code ≡ missing →
      string_at strings text code ≡ unwrap_or text []
  of-missing strings code e = rw (eq-eqb code missing e) refl

  same-line : (c : ℕ) → IsCode n c → string_at new text (get_or numbers c missing) ≡ string_at old text c
  same-line c known = elim known [
    | inl l ↦
        let w = get_or old c [] in
        let here : slice_get old c ≡ Some w = slice_get-get_or old c [] (omega (arith, l, as-long)) in
        let there = same-string new few old numbers c is ∙ here in
        of-symbol new (get_or numbers c missing) w few there
        ∙ sym (of-symbol old c w (omega (arith, as-long, small)) here)
    | inr e ↦
        let past : get_or numbers c missing ≡ missing =
        get_or_past numbers c missing (omega (arith, e, long, small)) in
        of-missing new (get_or numbers c missing) past ∙ sym (of-missing old c e)
  ]

  -- codes that are renumbered by such a map keep their lines
  pub kept : (cs : List ℕ) → AreCodes n cs → flat_map (code_line new text) (renumber numbers cs)
      ≡ flat_map (code_line old text) cs
  kept [] known = refl
  kept (c ∷ cs) known =
      rw (same-line c (known 0 c refl), kept cs (λ row code at. known (suc row) code at)) refl

-- map i leads from where it has to, and as the first one
abbrev pub LeadsRight : List ℕ → List (List ℕ) → ℕ → Type 0
LeadsRight column maps i = (m : List ℕ) → slice_get maps i ≡ Some m →
    (source_of m ≡ source_for column i) × LeadAlike (get_or maps 0 []) m

-- map i is right if the map that stands there leads right
pub right-at : (column : List ℕ) (maps : List (List ℕ)) (i : ℕ) (m : List ℕ) → slice_get maps i ≡ Some m →
    source_of m ≡ source_for column i → LeadAlike (get_or maps 0 []) m → LeadsRight column maps i
right-at column maps i m at from alike = grind (arith, common_steps)

-- the first map, if there is one
pub first-is : (maps : List (List ℕ)) (i : ℕ) (m first : List ℕ) → slice_get maps i ≡ Some m →
    first ≡ get_or maps 0 first → get_or maps 0 [] ≡ first
first-is maps i m first at is = grind (arith, common_steps)

-- rows that come from one dictionary, whose map leads to another, can be those of a column of the other
source-fits : (from into : ℕ) (s t : RowSource) → fits from s ≡ true → fits into t ≡ true →
    t.shards ≡ from → fits into s ≡ true
source-fits from into s t old new same = grind (arith, nat_tests)

some-shards : (n : ℕ) (s : RowSource) → fits n s ≡ true → 0 < n
some-shards n s fit = grind (arith, nat_tests)

some-wanted : (n : ℕ) (b : Bool) → 0 < n → 0 < cond b 1 n
some-wanted n true some = omega arith
some-wanted n false some = some

module _ (column : List ℕ) (maps : List (List ℕ)) (is : IsColumn column) (met : Meet column maps)
    (are : All IsColumn maps) where
  some : 0 < shards column
  some = some-shards (shards column) (source_of column) is.checksum.rows.header.source.fits

  -- a column takes at least one map
  pub not-none : 0 < length maps
  not-none = omega (arith, met.many, some-wanted (shards column) (nat_lt 1 (source_of column).shards) some)

  from-at : (i : ℕ) (d : List ℕ) → i < length maps → (source_of (get_or maps i d)).shards ≡ shards column
  from-at i d within = ap (λ s. s.shards) (met.from i (get_or maps i d) (slice_get-get_or maps i d within))

  -- each map has a source: the column's dictionary, which has at least one shard
  pub are-maps : All IsMapColumn maps
  are-maps = λ i d within. record {
    column = are i d within;
    source = λ none. omega (arith, none, some, from-at i d within);
  }

  -- the column's source can be that of a column of the dictionary to which the first map leads
  pub fits-first : (first : List ℕ) → first ≡ get_or maps 0 first → fits (shards first) (source_of column) ≡ true
  fits-first first is-first =
      let fit = source-fits (shards column) (shards (get_or maps 0 first)) (source_of column)
      (source_of (get_or maps 0 first)) is.checksum.rows.header.source.fits
      (are 0 first not-none).checksum.rows.header.source.fits (from-at 0 first not-none) in
      rw (← is-first) at fit

  -- renumbered by the maps, codes keep their lines
  pub keeps : KeepsLines maps (codes column) (renumber (joined_codes maps) (codes column))
  keeps = λ olds news text leads counts.
      let whole = maps-join olds news (map codes maps) leads in
      kept (joined olds) (joined news) text (joined_codes maps) (strings column)
      (subst (λ t. IsMap (joined olds) (joined news) (joined_map 0 t (map codes maps))) counts whole)
      (omega (arith, joined-length news, ap sum_of counts, met.few)) (joined-rows 0 maps ∙ met.rows)
      is.checksum.rows.header.source.width.few (codes column) is.codes
