-- `into_raw_with_allocator` hands out the box's pointer and allocator, and what the box owned, which the
-- parts then own.
use Rattle.intaglio_c.proofs.Walks.{◌≡◌, ◌∷◌, ◌++◌, refl, sym, ap, List, [], inst_fn, a_type, dcons, dnil, Val, ftrue, flft, id⊢, emp, WpFn, ‵, raw, ◌⊛◌, some, later, prop, ◌$◌, ◌∵◌, !, qed, done, move, keep, drop, split, join, fsplit, fjoin, regoal, rewrite, suffices, pick, await, use0, use1, enter, stop, fld, of_opd, no_more, and_then, returns, alloc_all, pass_all, free_all, look_at, get, get_in, sets, lands_as, agg, sub, whole, ◌⊑◌, fact, fact_i, tables, no, param, bounded, param_laws, Ptr, RawPtr, rawptr_Lawful, plain, nothing, only, heard, calls_at, Lasts, lasts, triple_of, framed, Stays, walk_of, says, stay_dropped, ends_at, Goes-blank, proved_at, box_of, word, word_fits, pair_out, pair_in, parts_of}
use denote.Struct.Tuple.{Tuple}
use Rattle.std.specs.Box.Ownership.{box_owns}
use Rattle.std.specs.contracts.boxed.Box.into_raw_with_allocator as callee
use Rattle.std.proofs.boxed.Box.into_raw_with_allocator.Met as callee_met
use Rattle.intaglio_c.specs.contracts.table_ptr.BoxParts.of as f
use Rattle.intaglio_c.proofs.table_ptr.BoxParts.of.Statement.{statement}
use Rattle.intaglio_c.proofs.table_ptr.BoxParts.of.Code as code

pub of_spec : {M : Type 1} → statement M
of_spec 𝓤 𝓛 𝓜 𝓡 wired T A T-laws A-laws g d dd dx allocates frees drops =
    let value = param 0 T in let allocator = param 1 A in let laws = param_laws 1 A A-laws in
    let box = box_of value allocator g in let parts = parts_of value allocator g in let pair =
    Tuple (RawPtr ∷ allocator ∷ []) in
    let at = bounded (a_type ∷ a_type ∷ []) (T, (A, tt)) (dcons d (dcons dd (dcons dx dnil))) in let fn =
    inst_fn at code.function in
    let E = f.ended T A g d dd dx in let c = f.clauses T A g d dd dx 𝓛 𝓜.mem 𝓡.returns in
    let stayed : Stays E.signature.params E.kept = (stay_dropped (plain (λ _. box)) no, tt) in
    let W = walk_of 𝓛 E stayed c in let 𝓣 = tables 𝓤 𝓛.H 𝓜 𝓡 𝓡.env in
    let C = triple_of 𝓛 (callee.signature T A g d dd dx) (callee.spec T A g d dd dx 𝓛 𝓜.mem 𝓡.returns) in
    let met = callee_met.met 𝓤 𝓛 𝓜 𝓡 (code.calls-std_alloc::boxed::Box::into_raw_with_allocator 𝓡.env wired) T
    A T-laws A-laws g d dd dx allocates frees drops in
    proved_at 𝓛 E stayed c 𝓜 𝓡 (Goes-blank 𝓛 2 (plain (λ _. box)) no (λ κs x w. tt), tt)
    (f.Key.name at) fn (code.unfolded 𝓤 𝓛.H 𝓜 𝓡 wired (T, (A, tt)) d dd dx) (λ y are.
    let κs = y.0.0 in let qs = y.0.1 in let b = y.0.3.0 in let vs = y.0.4.0 in
    let alive = ‵ (flft κs.0 qs.0) ⊛ ‵ (flft κs.1.0 qs.1.0) ⊛ ‵ ftrue in
    let T-lives = κs.0 ⊑ T.lives in let A-lives = κs.1.0 ⊑ A.lives in
    qed 𝓛 ((alive ⊛ (‵ (box.own_val b vs) ⊛ ‵ ftrue))
    ∷ (raw (fact 𝓤 T-lives) ⊛ raw (fact 𝓤 A-lives) ⊛ ‵ ftrue) ∷ []) ∵
    move ! (1 ∷ []) $ split ! $ heard ! T-lives (λ outlives. split ! $ heard ! A-lives (λ outlives'. drop ! $
    split ! $ move ! (1 ∷ []) $ split ! $ keep ! (0 ∷ 2 ∷ []) $ fsplit ! $
    pair_out ! allocator laws b.ptr b.alloc vs (λ h is fits. let typed = word_fits allocator 𝓛 b.ptr h fits in
    pair_in ! allocator b.ptr b.alloc h $ fjoin ! $
    -- [the box; the tokens]
    regoal ! (λ (us : List Val). prop (WpFn 𝓤 𝓛.H 𝓣.C 𝓣.Λ fn (us ++ []) (W.post y))) is refl $
    enter ! _ _ fn _ _ $ alloc_all ! (λ l. pass_all ! refl (typed, tt) $
    sets ! (of_opd ! (get ! refl)) refl typed $
    nothing ! $ move ! (1 ∷ 0 ∷ []) $ join ! $ move ! (1 ∷ 0 ∷ []) $ join ! $
    nothing ! $ use0 𝓛 (raw (fact 𝓤 A-lives)) (fact_i 𝓤 A-lives (emp 𝓤) outlives') $ join ! $ use0 𝓛
    (raw (fact 𝓤 T-lives)) (fact_i 𝓤 T-lives (emp 𝓤) outlives) $ join ! $ move ! (1 ∷ 0 ∷ []) $ join ! $
    let z : C.Ghost = ((κs, qs, tt, (b, tt), (word b.ptr h ∷ [], tt)), tt) in
    use1 𝓛 (raw (C.pre z)) (id⊢ 𝓤 _) $
    calls_at ! (framed 𝓤 𝓛.H 𝓜 𝓣) C met z (and_then ! (get ! refl) (no_more !)) (λ u.
    use1 𝓛 (later
    (some (λ (r : Ptr × A.Denot).
    (alive ⊛ ‵ (pair.own_val r (u ∷ []))) ⊛ some
    (λ (ws : Lasts (callee.ended T A g d dd dx) κs z.0.3).
    ‵ (lasts (callee.ended T A g d dd dx) κs z.0.3 ws) ⊛
    (raw (fact 𝓤 (r.1 ≡ b.alloc)) ⊛ ‵ (box_owns (g.dealloc_token b.alloc) value r.0 b.value))))))
    (id⊢ 𝓤 _) $ await ! tt $ pick !
    (λ r. split ! $ move ! (1 ∷ []) $ pick !
    (λ ws. split ! $ drop ! $ split ! $ heard ! (r.1 ≡ b.alloc) (λ same.
    move ! (1 ∷ []) $ split ! $ move ! (1 ∷ []) $
    pair_out ! allocator laws r.0 r.1 (u ∷ []) (λ h' is' fits'. let typed' =
    word_fits allocator 𝓛 r.0 h' fits' in
    -- [the allocator; the tokens; the value behind the pointer, and the right to free it]
    lands_as ! (ap only is') refl typed' $
    sets ! (of_opd ! (get_in ! (fld ! refl (stop !)) (sub ! 0 refl (whole !)))) refl
    ((rawptr_Lawful 𝓛).typed r.0 _ refl).0 $
    sets ! (of_opd ! (get_in ! (fld ! refl (stop !)) (sub ! 1 refl (whole !)))) refl fits' $
    sets ! (of_opd ! (get ! refl)) refl fits' $
    sets ! (agg ! (and_then ! (get ! refl) (and_then ! (get ! refl) (no_more !)))) refl typed' $
    returns ! (look_at ! 0 refl) $ free_all ! refl $ pair_in ! allocator r.0 r.1 h' $ move ! (2 ∷ []) $
    rewrite ! 0 (λ (a : A.Denot). ‵ (box_owns (g.dealloc_token a) value r.0 b.value)) (sym same) refl $
    move ! (1 ∷ 0 ∷ []) $ fjoin ! $
    -- [the result; the tokens]
    let made : parts.Denot = record { ptr = r.0; alloc = r.1; value = b.value } in
    suffices ! _ (ends_at 𝓛 E stayed c y (word r.0 h') made ((tt, (tt, tt)), tt) (tt, tt)) $ says ! refl $
    nothing ! $ nothing ! $ join ! $ move ! (2 ∷ 0 ∷ 1 ∷ []) $ done !))))))))))
