-- There is a table, and the cast changes only the pointer's type. So the parts own what the pointer owned.
use Rattle.intaglio_c.proofs.Walks.{◌∷◌, ◌++◌, there, refl, sym, List, [], Val, ftrue, WpFn, ‵, raw, ◌⊛◌, prop, ◌$◌, ◌∵◌, !, qed, done, move, keep, split, join, fsplit, fjoin, regoal, rewrite, suffices, enter, stop, fld, of_opd, no_more, and_then, returns, alloc_all, pass_all, free_all, look_at, get, get_in, sets, agg, sub, whole, fact, tables, rawptr_Lawful, plain, nothing, heard, Stays, walk_of, says, stay_dropped, ends_at, Goes-blank, proved_at, IsSomeAnd, ⊤, allocator, the_row_laws, ghosts, Option, word, word_fits, pair_out, pair_in, ptr_owns, any_table, parts_of, table_ptr}
use Rattle.intaglio_c.specs.contracts.table_ptr.TablePtr.into_parts as f
use Rattle.intaglio_c.proofs.table_ptr.TablePtr.into_parts.Statement.{statement}
use Rattle.intaglio_c.proofs.table_ptr.TablePtr.into_parts.Code as code

pub into_parts_spec : {M : Type 1} → statement M
into_parts_spec 𝓤 𝓛 𝓜 𝓡 wired =
    let stayed : Stays f.ended.signature.params f.ended.kept = (stay_dropped _ f.ended.kept.0, tt) in
    let c = f.clauses 𝓛 𝓜.mem 𝓡.returns in let W = walk_of 𝓛 f.ended stayed c in let 𝓣 =
    tables 𝓤 𝓛.H 𝓜 𝓡 𝓡.env in let parts = parts_of any_table allocator ghosts in
    proved_at 𝓛 f.ended stayed c 𝓜 𝓡 (
      Goes-blank 𝓛 0 (plain (λ _. table_ptr)) f.ended.kept.0 (λ κs x w. tt),
      tt,
    )
    f.Key.name code.function (code.unfolded 𝓤 𝓛.H 𝓜 𝓡 wired) (λ y are.
    let p = y.0.3.0.ptr in let a = y.0.3.0.alloc in let o = y.0.3.0.table in let vs = y.0.4.0 in
    qed 𝓛 ((‵ ftrue ⊛ (‵ (table_ptr.own_val y.0.3.0 vs) ⊛ ‵ ftrue)) ∷ raw (fact 𝓤 (IsSomeAnd o (λ _. ⊤)))
    ∷ []) ∵ move ! (1 ∷ []) $ heard ! _ (λ some. let x = (there o some).0 in let is_x = (there o some).1 in
    let made : parts.Denot = record { ptr = p; alloc = a; value = x } in
    split ! $ move ! (1 ∷ []) $ split ! $ keep ! (0 ∷ []) $ fsplit ! $
    pair_out ! allocator the_row_laws p a vs (λ h is fits. let typed = word_fits allocator 𝓛 p h fits in
    rewrite ! 1 (λ (v : Option any_table.Denot). ‵ (ptr_owns a p v)) is_x refl $
    -- [the allocator; the value behind the pointer, and the right to free it]
    regoal ! (λ (us : List Val). prop (WpFn 𝓤 𝓛.H 𝓣.C 𝓣.Λ code.function (us ++ []) (W.post y))) is refl $
    enter ! _ _ code.function _ _ $ alloc_all ! (λ l. pass_all ! refl (typed, tt) $
    sets ! (of_opd ! (get_in ! (fld ! refl (stop !)) (sub ! 0 refl (whole !)))) refl
    ((rawptr_Lawful 𝓛).typed p _ refl).0 $
    sets ! (of_opd ! (get_in ! (fld ! refl (stop !)) (sub ! 1 refl (whole !)))) refl fits $
    sets ! (of_opd ! (get ! refl)) refl ((rawptr_Lawful 𝓛).typed p _ refl).0 $
    sets ! (agg ! (and_then ! (get ! refl) (and_then ! (get ! refl) (no_more !)))) refl typed $
    returns ! (look_at ! 0 refl) $ free_all ! refl $ pair_in ! allocator p a h $ fjoin ! $
    -- [the result]
    suffices ! _ (ends_at 𝓛 f.ended stayed c y (word p h) made (tt, tt) (tt, tt)) $ says ! (sym is_x) $
    nothing ! $ nothing ! $ join ! $ nothing ! $ done !))))
