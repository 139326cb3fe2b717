-- Lists that are shared out to shards.
use Rattle.intaglio_columns.proofs.Names.{common_steps, length-map, take_all, set_of_shards, FrozenKind, State, lines_of, decode, renumber, first_shards, joined, shard, renumbered, distinct_lines, id_of, set_of, IsShared, KeepsInput}
use Rattle.std.proofs.Common.{◌≡◌, ◌∙◌, sym, ap, refl, ℕ, zero, suc, ◌≤◌, List, [], ◌∷◌, length, length-append, map, take, Some, arith}
use Rattle.std.proofs.lemmas.Simd.{map-map}
use Rattle.intaglio_frozen.specs.declared.id.DictionaryId.{DictionaryId}
use Rattle.intaglio_frozen.specs.declared.set_id.SetId.{SetId}
use Rattle.intaglio_frozen.specs.Merging.{missing}
use Rattle.intaglio_frozen.specs.Shards.{shards}
use Rattle.intaglio_frozen.proofs.Absorbed.{issued-map}
use Rattle.intaglio_frozen.proofs.Numbered.{few-strings}

-- as many shards are made as are asked for
first-length : (many s : ℕ) (strings : List (List ℕ)) → length (first_shards many strings s) ≡ s
first-length many zero strings = refl
first-length many (suc s) strings = omega (
  arith,
  first-length many s strings,
  length-append (first_shards many strings s) (shard many strings s ∷ []),
)

module _ {X : Type 0} (strings-of : X → List (List ℕ)) (lists : List X) where
  -- the split of a list into shards has as many lists as there are shards
  pub shards-length : (many : ℕ) (strings : List (List ℕ)) → map strings-of lists ≡ shards many strings →
      length lists ≡ many
  shards-length many strings split =
      sym (length-map lists strings-of) ∙ ap length split ∙ first-length many many strings

  -- the identities of all lists give the set
  pub set-from : (kind : FrozenKind) (ids : List DictionaryId) (n : ℕ) → length lists ≤ n
      → ids ≡ map (λ ws. id_of kind (strings-of ws)) (take n lists)
      → set_of_shards ids ≡ set_of kind (map strings-of lists)
  set-from kind ids n all is =
      ap set_of_shards (is ∙ ap (map (λ ws. id_of kind (strings-of ws))) (take_all n lists all)
      ∙ sym (map-map (id_of kind) strings-of lists))

-- codes of lines, by the numbers of their strings among those of all shards, lead to the lines
pub keeps-input : (kind : FrozenKind) (many : ℕ) (lists : List (List (List ℕ))) (numbers symbols : List ℕ)
    (set : SetId) (state : State (List ℕ)) (count : ℕ)
    → IsShared kind many state.contents lists numbers set
    → KeepsInput many (renumber numbers symbols) state symbols count
keeps-input kind many lists numbers symbols set state count shared other input done =
    let codes = renumber numbers symbols in
    let few : length (joined lists) ≤ missing = grind (arith, common_steps, few-strings) in
    let kept : decode (joined lists) codes ≡ decode state.contents symbols =
    renumbered (joined lists) few state.contents numbers symbols shared.map in
    let same : joined (shards many (distinct_lines input)) ≡ joined lists =
    ap (λ t. joined (shards many t)) (sym done.held) ∙ ap joined (sym shared.split) in
    let read : decode state.contents symbols ≡ map Some (lines_of input) = grind (arith, common_steps, issued-map) in
    ap (λ t. decode t codes) same ∙ kept ∙ read
