-- The ranks of symbols whose strings occur.
use Rattle.intaglio_columns.proofs.Names.{common_steps, All, cases_Bool, All-contains, All-map, AreCounts, rows_past, AreInOrder, IsCountsFault, IsRankFault, occurring, rank_of, ranks, strings}
use Rattle.std.proofs.Common.{◌≡◌, ℕ, zero, suc, ◌+◌, ◌<◌, ◌==◌, inl, inr, Bool, not, List, length, get_or, sym, subst, arith}
use Rattle.std.proofs.lemmas.List.Sorted.{All-permutation}
use Rattle.intaglio_columns.proofs.Past.{past-no}
use Rattle.intaglio_columns.specs.declared.error.DictionaryError.{DictionaryError}
use Rattle.intaglio_columns.specs.declared.error.DictionaryError.TheVariants.{NoString, Stream}
use Rattle.intaglio_columns.specs.Layout.{codes}
use Rattle.intaglio_columns.proofs.Parts.{passed-on}
use Rattle.intaglio_columns.proofs.counting.write_counts.Goals as goal

-- a symbol whose string occurs
abbrev Occurs : List ℕ → ℕ → Type 0
Occurs counts symbol = (symbol < length counts) × (0 < get_or counts symbol 0)

-- of the symbols from a position on, the string of each whose count isn't 0 occurs
occur : (counts : List ℕ) (left from : ℕ) → from + left ≡ length counts →
    All (Occurs counts) (rows_past (λ n. not (n == 0)) from counts)
occur counts zero from e = grind (arith, common_steps)
occur counts (suc left) from e =
    let p = λ (n : ℕ). not (n == 0) in
    let l : from < length counts = omega (arith, e) in
    let others = occur counts left (from + 1) (omega (arith, e)) in
    elim (cases_Bool (p (get_or counts from 0))) [
      | inl passed ↦ grind (arith, common_steps)
      | inr failed ↦ subst (All (Occurs counts)) (sym (past-no p counts from l failed)) others
    ]

-- the string of each ranked symbol occurs
all-occur : (counts : List ℕ) (ordered : List (ℕ × ℕ)) (by_symbol : Bool) →
    AreInOrder by_symbol counts ordered → All (λ rank. Occurs counts rank.1) ordered
all-occur counts ordered by_symbol order =
    let P = λ (rank : ℕ × ℕ). Occurs counts rank.1 in
    All-permutation P (ranks counts) ordered order.all
    (All-map P (rank_of counts) (occurring counts) (occur counts (length counts) 0 (omega arith)))

-- what is wrong with a rank is what is wrong with the codes
fault-of-counts : (strings : List (List ℕ)) (IsWhole : Type 0) (n : ℕ) (cs counts : List ℕ) (gone : ℕ)
    (ordered : List (ℕ × ℕ)) (by_symbol : Bool) (e : DictionaryError)
    → AreCounts n cs counts gone → AreInOrder by_symbol counts ordered →
    IsRankFault strings IsWhole ordered e → IsCountsFault strings IsWhole n cs e
fault-of-counts strings IsWhole n cs counts gone ordered by_symbol (NoString symbol) counted order fault =
    let P = λ (rank : ℕ × ℕ). Occurs counts rank.1 in
    let rank = fault.0 in
    let is : rank.1 ≡ symbol = fault.2 in
    let occurs = All-contains P ordered rank (all-occur counts ordered by_symbol order) fault.1 in
    let here : Occurs counts symbol = subst (Occurs counts) is occurs in
    let l : symbol < n = omega (arith, here.0, counted.strings) in
    (l, subst (λ k. 0 < k) (counted.each symbol l) here.1, fault.3)
fault-of-counts strings IsWhole n cs counts gone ordered by_symbol (Stream failure) counted order fault =
    fault

pub returns-clause-written : goal.returns-clause-written
returns-clause-written g c =
    let lines = rw (c.deref-2.ensures.value, c.deref-3.ensures.value) at c.in_ok-lines.ensures.lines in
    record {
      counts = c.in-Ok.counts.of.items;
      gone = c.in-Ok.counts.missing;
      ordered = c.in-Ok-ranks_in_order.ordered.items;
      counted = c.in-Ok.ensures;
      order = rw c.deref.ensures.value at c.in-Ok-ranks_in_order.ensures;
      written = rw (← lines) (rw c.deref-4.ensures.value at c.in_ok-write_output.ensures.written);
    }

pub returns-in_err-lines-clause-err : goal.returns-in_err-lines-clause-err
returns-in_err-lines-clause-err g c =
    let column = c.args.column.now in
    let order = rw c.deref.ensures.value at c.in-Ok-ranks_in_order.ensures in
    let fault = rw c.deref-3.ensures.value at c.in_err-lines.ensures.err in
    passed-on _ c.from_residual.result _ c.from_residual.ensures.1
    (fault-of-counts (g.D.Dictionary.strings c.args.table.now) (g.D.Dictionary.is_whole c.args.table.now)
    (strings column) (codes column) c.in-Ok.counts.of.items
    c.in-Ok.counts.missing c.in-Ok-ranks_in_order.ordered.items c.args.by_symbol c.in_err-lines.field-0.0
    c.in-Ok.ensures order fault)
