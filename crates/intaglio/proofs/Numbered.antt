-- Distinct contents are stored in their order, each under the number of its place.
use Rattle.std.proofs.Common.{◌≡◌, ◌∙◌, refl, sym, ap, arith, ℕ, ◌+◌, ◌-◌, List, [], ◌∷◌, ◌++◌, length, map, None, length-append}
use Rattle.std.proofs.Math.ListN.{get_or-append}
use Rattle.std.proofs.Math.Seq.{get_or-append_seam}
use Rattle.intaglio.proofs.Names.{append-nil, append_assoc, map-append, numbers_from, Key, first_of, first, AreDistinct, issued, interned, issue_from, interned_all, first-none}
use Rattle.intaglio_symbol.proofs.NumbersLemmas.{numbers_from-none, numbers_from-first}

-- a key at the seam of two lists that are distinct together isn't in the first one
fresh : (ks : List Key) (k : Key) (more : List Key) → AreDistinct (ks ++ k ∷ more) → first_of ks k ≡ None
fresh ks k more apart = first-none ks k (λ j lt same.
    let size : length (ks ++ k ∷ more) ≡ length ks + length (k ∷ more) = length-append ks (k ∷ more) in
    apart j (length ks) [] lt (omega arith) (get_or-append ks (k ∷ more) [] j lt ∙ same
    ∙ sym (get_or-append_seam ks k more [])))

module _ {C : Type 0} (key : C → Key) where
  -- contents that are distinct and new are stored behind the others in their order, and numbered on
  pub numbered-from : (held cs : List C) → AreDistinct (map key (held ++ cs))
      → (interned_all key held cs ≡ held ++ cs)
      × (issue_from key held cs ≡ numbers_from (length held) (length cs))
  numbered-from held [] apart = (sym (append-nil held), sym (numbers_from-none (length held) 0 refl))
  numbered-from held (c ∷ cs) apart =
      let none : first key held (key c) ≡ None =
      fresh (map key held) (key c) (map key cs) (rw (← map-append key held (c ∷ cs)) apart) in
      let next : interned key held c ≡ held ++ c ∷ [] = rw none refl in
      let symbol : issued key held c ≡ length held = rw none refl in
      let rest = numbered-from (held ++ c ∷ []) cs (rw (append_assoc held (c ∷ []) cs) apart) in
      let less : length (c ∷ cs) - 1 ≡ length cs = omega arith in
      let size : length (held ++ c ∷ []) ≡ length held + 1 = length-append held (c ∷ []) in (
        ap (λ (h : List C). interned_all key h cs) next ∙ rest.0 ∙ append_assoc held (c ∷ []) cs,
        rw (symbol, next, rest.1, size) (sym (numbers_from-first (length held) (length (c ∷ cs)) (omega arith)
            ∙ ap (λ (n : ℕ). length held ∷ numbers_from (length held + 1) n) less)),
      )

  -- distinct contents are stored in their order, and each is given the number of its place
  pub numbered : (cs : List C) → AreDistinct (map key cs) → (interned_all key [] cs ≡ cs)
      × (issue_from key [] cs ≡ numbers_from 0 (length cs))
  numbered cs apart = numbered-from [] cs apart
