-- The parts own what `from_raw` requires of a pointer and an allocator, and it makes a box of them that owns
-- it.
use Rattle.intaglio_c.proofs.Walks.{◌≡◌, ◌∷◌, ◌++◌, IsT, refl, sym, ap, subst, List, [], inst_fn, a_type, dcons, dnil, Val, has_ty, WT, ftrue, flft, id⊢, emp, WpFn, ‵, raw, ◌⊛◌, some, later, prop, at_ret, ◌$◌, ◌∵◌, !, qed, done, move, keep, drop, split, join, fsplit, fjoin, regoal, rewrite, suffices, pick, await, use0, use1, feq_i, enter, stop, fld, of_opd, no_more, and_then, first, blocks, exec, returns, alloc_all, pass_all, free_all, look_at, get, get_in, sets, lands_last, env, sub, whole, ◌⊑◌, fact, fact_i, tables, no, param, bounded, layout, param_laws, rawptr_Lawful, ptr_val, plain, nothing, only, heard, calls_at_last, Lasts, lasts, triple_of, framed, Stays, walk_of, says, stay_dropped, ends_at, Goes-blank, proved_at, box_of, word_fits, pair_out, pair_in, parts_of}
use Rattle.std.below.core.proofs.alloc.Shapes.{after}
use Rattle.std.specs.contracts.boxed.Box.from_raw as callee
use Rattle.std.proofs.boxed.Box.from_raw.Met as callee_met
use Rattle.intaglio_c.specs.contracts.table_ptr.BoxParts.into_box as f
use Rattle.intaglio_c.proofs.table_ptr.BoxParts.into_box.Statement.{statement}
use Rattle.intaglio_c.proofs.table_ptr.BoxParts.into_box.Code as code

pub into_box_spec : {M : Type 1} → statement M
into_box_spec 𝓤 𝓛 𝓜 𝓡 wired T A T-laws A-laws g d dd allocates frees =
    let value = param 0 T in let allocator = param 1 A in let laws = param_laws 1 A A-laws in
    let box = box_of value allocator g in let parts = parts_of value allocator g in
    let at = bounded (a_type ∷ a_type ∷ []) (T, (A, tt)) (dcons d (dcons dd dnil)) in let fn =
    inst_fn at code.function in
    let E = f.ended T A g d dd in let c = f.clauses T A g d dd 𝓛 𝓜.mem 𝓡.returns in
    let stayed : Stays E.signature.params E.kept = (stay_dropped (plain (λ _. parts)) no, tt) in
    let W = walk_of 𝓛 E stayed c in let 𝓣 = tables 𝓤 𝓛.H 𝓜 𝓡 𝓡.env in
    let C = triple_of 𝓛 (callee.signature T A g d dd) (callee.spec T A g d dd 𝓛 𝓜.mem 𝓡.returns) in
    let met = callee_met.met 𝓤 𝓛 𝓜 𝓡 (code.calls-std_alloc::boxed::Box::from_raw 𝓡.env wired) T A T-laws
    A-laws g d dd allocates frees in
    proved_at 𝓛 E stayed c 𝓜 𝓡 (Goes-blank 𝓛 2 (plain (λ _. parts)) no (λ κs x w. tt), tt)
    (f.Key.name at) fn (code.unfolded 𝓤 𝓛.H 𝓜 𝓡 wired (T, (A, tt)) d dd) (λ y are.
    let κs = y.0.0 in let qs = y.0.1 in let s = y.0.3.0 in let vs = y.0.4.0 in
    let alive = ‵ (flft κs.0 qs.0) ⊛ ‵ (flft κs.1.0 qs.1.0) ⊛ ‵ ftrue in
    let T-lives = κs.0 ⊑ T.lives in let A-lives = κs.1.0 ⊑ A.lives in
    qed 𝓛 ((alive ⊛ (‵ (parts.own_val s vs) ⊛ ‵ ftrue))
    ∷ (raw (fact 𝓤 T-lives) ⊛ raw (fact 𝓤 A-lives) ⊛ ‵ ftrue) ∷ []) ∵
    move ! (1 ∷ []) $ split ! $ heard ! T-lives (λ outlives. split ! $ heard ! A-lives (λ outlives'. drop ! $
    split ! $ move ! (1 ∷ []) $ split ! $ keep ! (0 ∷ 2 ∷ []) $ fsplit ! $
    pair_out ! allocator laws s.ptr s.alloc vs (λ h is fits. let typed = word_fits allocator 𝓛 s.ptr h fits in
    -- [the allocator; the value behind the pointer, and the right to free it; the tokens]
    regoal ! (λ (us : List Val). prop (WpFn 𝓤 𝓛.H 𝓣.C 𝓣.Λ fn (us ++ []) (W.post y))) is refl $
    enter ! _ _ fn _ _ $ alloc_all ! (λ l. pass_all ! refl (typed, tt) $
    sets ! (of_opd ! (get_in ! (fld ! refl (stop !)) (sub ! 0 refl (whole !)))) refl
    ((rawptr_Lawful 𝓛).typed s.ptr _ refl).0 $
    sets ! (of_opd ! (get_in ! (fld ! refl (stop !)) (sub ! 1 refl (whole !)))) refl fits $
    first ! $ blocks ! $ sets ! (of_opd ! (get ! refl)) refl fits $
    -- the arguments: the allocator, and the pointer
    nothing ! $ feq_i ! (List Val) (ptr_val s.ptr ∷ []) (ptr_val s.ptr ∷ []) refl $ join ! $ move !
    (1 ∷ 0 ∷ []) $ join ! $ move ! (2 ∷ 0 ∷ []) $ join ! $
    -- what the callee requires
    move ! (1 ∷ []) $ use0 𝓛 (raw (fact 𝓤 A-lives)) (fact_i 𝓤 A-lives (emp 𝓤) outlives') $ join ! $ use0 𝓛
    (raw (fact 𝓤 T-lives)) (fact_i 𝓤 T-lives (emp 𝓤) outlives) $ join ! $ move ! (1 ∷ 0 ∷ []) $ join ! $
    let z : C.Ghost = ((κs, qs, tt, (s.alloc, (s.ptr, tt)), (h ∷ [], (ptr_val s.ptr ∷ [], tt))), s.value) in
    use1 𝓛 (raw (C.pre z)) (id⊢ 𝓤 _) $
    calls_at_last ! (framed 𝓤 𝓛.H 𝓜 𝓣) C met z (and_then ! (get ! refl) (and_then ! (get ! refl) (no_more !)))
    (λ u.
    use1 𝓛 (later
    (some (λ (r : box.Denot).
    (alive ⊛ ‵ (box.own_val r (u ∷ []))) ⊛ some (λ (ws : Lasts (callee.ended T A g d dd) κs z.0.3).
    ‵ (lasts (callee.ended T A g d dd) κs z.0.3 ws) ⊛
    (raw (fact 𝓤 (r.value ≡ s.value)) ⊛ raw (fact 𝓤 (r.alloc ≡ s.alloc))))))) (id⊢ 𝓤 _) $ await ! tt $ pick !
    (λ r. split ! $ move ! (1 ∷ []) $ pick !
    (λ ws. split ! $ drop ! $ split ! $ heard ! (r.value ≡ s.value) (λ same. drop ! $
    split ! $ move ! (1 ∷ []) $ fsplit ! $
    pair_out ! allocator laws r.ptr r.alloc (u ∷ []) (λ h' is' fits'. let typed' =
    word_fits allocator 𝓛 r.ptr h' fits' in
    pair_in ! allocator r.ptr r.alloc h' $ fjoin ! $ rewrite ! 0 (λ (us : List Val). ‵ (box.own_val r us))
    (sym is') refl $
    -- [the result; the tokens]
    let good : IsT (has_ty (layout box) u) × WT u =
    subst (λ (v : Val). IsT (has_ty (layout box) v) × WT v) (sym (ap only is')) typed' in
    lands_last ! refl good $ exec ! 𝓣.C 𝓣.Λ (env fn.locals l) (after 3 fn.body) (at_ret _ (W.post y)) $
    sets ! (of_opd ! (get ! refl)) refl good $ returns ! (look_at ! 0 refl) $ free_all ! refl $
    suffices ! _ (ends_at 𝓛 E stayed c y u r ((tt, (tt, tt)), tt) (tt, tt)) $ says ! same $
    nothing ! $ nothing ! $ join ! $ move ! (2 ∷ 0 ∷ 1 ∷ []) $ done !))))))))))
