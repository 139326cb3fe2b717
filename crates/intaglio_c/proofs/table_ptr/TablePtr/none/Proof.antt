-- The pointer is null and its table `None`, which owns nothing. So all that the struct owns is the
-- allocator.
use Rattle.intaglio_c.proofs.Walks.{◌∷◌, refl, [], lit<, ftrue, ‵, ◌⊛◌, ◌$◌, ◌∵◌, !, qed, done, move, keep, split, join, fjoin, suffices, enter, of_opd, lit, no_more, and_then, returns, alloc_all, pass_all, free_all, look_at, get, sets, agg, yes, null_ptr, plain, nothing, Stays, walk_of, says, stay_dropped, Goes-dropped, ends_at, proved, allocator, lowers, None, word, pair_in, table_ptr}
use Rattle.intaglio_c.specs.contracts.table_ptr.TablePtr.none as f
use Rattle.intaglio_c.proofs.table_ptr.TablePtr.none.Statement.{statement}
use Rattle.intaglio_c.proofs.table_ptr.TablePtr.none.Code as code

pub none_spec : {M : Type 1} → statement M
none_spec 𝓤 𝓛 𝓜 𝓡 wired =
    let stayed : Stays f.ended.signature.params f.ended.kept = (stay_dropped _ yes, tt) in let c = f.clauses 𝓛 𝓜.mem 𝓡.returns in let W = walk_of 𝓛 f.ended stayed c in
    proved 𝓛 f.ended stayed c 𝓜 𝓡 (Goes-dropped 𝓛 0 (plain (λ _. allocator)) yes (λ κs x w. refl), tt)
    f.Key.name code.function (code.unfolded 𝓤 𝓛.H 𝓜 𝓡 wired)
    (λ κs. ((λ a. lowers.lowered a ∷ []), tt)) (λ κs. (lowers.val_is, tt)) (λ κs qs bounds args g are.
    let a = args.0 in let h = lowers.lowered a in let nothing_held : table_ptr.Denot =
    record { ptr = null_ptr; alloc = a; table = None } in
    let y : W.Ghost = ((κs, qs, bounds, args, (h ∷ [], tt)), tt) in
    qed 𝓛 ((‵ ftrue ⊛ (‵ (allocator.own_val a (h ∷ [])) ⊛ ‵ ftrue)) ∷ ‵ ftrue ∷ []) ∵
    split ! $ move ! (1 ∷ []) $ split ! $ keep ! (0 ∷ []) $
    -- [the allocator]
    enter ! _ _ code.function _ _ $ alloc_all ! (λ l. pass_all ! refl ((tt, ((tt, tt), tt)), tt) $
    sets ! (of_opd ! (lit ! tt)) refl (tt, record { fits = lit< tt }) $
    sets ! (agg ! (and_then ! (get ! refl) (and_then ! (get ! refl) (no_more !)))) refl (
      tt,
      (record { fits = lit< tt }, (((tt, tt), tt), tt)),
    ) $ returns ! (look_at ! 0 refl) $ free_all ! refl $
    pair_in ! allocator null_ptr a h $ nothing ! $ move ! (1 ∷ 0 ∷ []) $ fjoin ! $
    -- [the result]
    suffices ! _ (ends_at 𝓛 f.ended stayed c y (word null_ptr h) nothing_held (tt, tt) (tt, tt)) $
    says ! refl $ nothing ! $ nothing ! $ join ! $ nothing ! $ done !))
