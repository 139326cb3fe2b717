-- Who borrows the pointer borrows what it owns, so the table behind it can be lent. The pointer itself isn't
-- written: when the table's borrow ends, it owns the table as that then is.
use Rattle.intaglio_c.proofs.Walks.{◌∷◌, ◌++◌, there, refl, sym, List, [], named, Val, vptr, Fml, GName, ftrue, flft, fsep, ent, sep, id⊢, WpFn, sem, ‵, raw, ◌⊛◌, some, later, prop, at_ret, ◌$◌, ◌∵◌, !, qed, done, move, keep, use1, split, join, await, pick, fsplit, fsplit3, fjoin, fpack, feq_l, regoal, rewrite, suffices, frame, group, whole, sub, look_in, enter, load, stop, fld, of_opd, addr, first, blocks, exec, returns, alloc_all, pass_all, free_all, look_at, get, through, sets, sets_last, env, fact, tables, no, Ptr, lies_at, in_a_block, plain, nothing, heard, opens, Stays, walk_of, says, stay_dropped, Goes-spent_ref, ends_at, the_row_laws, proved_at, IsSomeAnd, ⊤, allocator, ghosts, Option, word, pair_out, pair_in, ptr_owns, any_table, table_ptr}
use Prim.Native.Nat.{ℕ}
use mir.Raw.{raw as bare}
use base.Fraction.{full_share}
use denote.Follow.{follows, lends_Part}
use denote.Memory.{part_at, mem, cell_at, part_of, lone}
use denote.Ref.{MutRef}
use Rattle.std.proofs.VecSteps.Shapes.{after}
use Rattle.intaglio_c.specs.Lent.{with_table}
use Rattle.intaglio_c.specs.contracts.table_ptr.TablePtr.table_mut as f
use Rattle.intaglio_c.proofs.table_ptr.TablePtr.table_mut.Statement.{statement}
use Rattle.intaglio_c.proofs.table_ptr.TablePtr.table_mut.Code as code

-- all of a `TablePtr` at a place but its table
abbrev Rest : table_ptr.Denot → Val → ℕ → ℕ → Fml
Rest d h b o = fsep (fsep (ghosts.dealloc_token d.alloc (bare (lone any_table.mir)) d.ptr)
    (allocator.own_val d.alloc (h ∷ []))) (cell_at full_share table_ptr.mir (word d.ptr h ∷ []) b o)

pub table_mut_spec : {M : Type 1} → statement M
unfolding part_of
table_mut_spec 𝓤 𝓛 𝓜 𝓡 wired =
    let stayed : Stays f.ended.signature.params f.ended.kept = (stay_dropped _ no, tt) in
    let c = f.clauses 𝓛 𝓜.mem 𝓡.returns in let W = walk_of 𝓛 f.ended stayed c in let 𝓣 =
    tables 𝓤 𝓛.H 𝓜 𝓡 𝓡.env in
    proved_at 𝓛 f.ended stayed c 𝓜 𝓡 (Goes-spent_ref 𝓛 1 (0 ∷ []) tt (plain (λ _. table_ptr)), tt)
    f.Key.name code.function (code.unfolded 𝓤 𝓛.H 𝓜 𝓡 wired) (λ y are.
    let κ = y.0.0.0 in let q = y.0.1.0 in let self = y.0.3.0 in let vs = y.0.4.0 in
    let d = self.now in let b = self.ref_ptr.0 in let o = self.ref_ptr.1 in let γ = self.ghost_name in
    qed 𝓛 (((‵ (flft κ q) ⊛ ‵ ftrue) ⊛ (‵ ((MutRef (named 0) κ table_ptr).own_val self vs) ⊛ ‵ ftrue))
    ∷ raw (fact 𝓤 (IsSomeAnd d.table (λ _. ⊤))) ∷ []) ∵
    move ! (1 ∷ []) $ heard ! _ (λ is_there. let x = (there d.table is_there).0 in
    let is_x = (there d.table is_there).1 in
    split ! $ split ! $ move ! (2 ∷ []) $ split ! $ keep ! (0 ∷ 2 ∷ []) $ fsplit3 ! $ feq_l ! (λ is.
    -- [the value; the borrow; the token]
    regoal ! (λ (us : List Val). prop (WpFn 𝓤 𝓛.H 𝓣.C 𝓣.Λ code.function (us ++ []) (W.post y))) is refl $
    enter ! _ _ code.function _ _ $ alloc_all ! (λ l. pass_all ! refl ((tt, tt), tt) $
    opens ! tt table_ptr b o (λ us. move ! (1 ∷ []) $ fsplit ! $ pair_out ! allocator the_row_laws d.ptr
    d.alloc us (λ h is_word fits.
    rewrite ! 1 (λ (v : Option any_table.Denot). ‵ (ptr_owns d.alloc d.ptr v)) is_x refl $
    rewrite ! 2 (λ (ws : List Val). ‵ (cell_at full_share table_ptr.mir ws b o)) is_word refl $
    move ! (1 ∷ []) $ fsplit ! $ in_a_block ! d.ptr (λ p. lies_at any_table full_share p x) (id⊢ 𝓤 _)
    (λ at_b at_o e.
    -- [the table; the right to free it; the allocator; the words; the open borrow, in three entries]
    rewrite ! 3 (λ (p : Ptr). ‵ (cell_at full_share table_ptr.mir (word p h ∷ []) b o)) e refl $
    first ! $ blocks ! $
    sets ! (of_opd ! (load ! (through ! refl (fld ! refl (stop !))) (look_in ! 3 (sub ! 0 refl (whole !)))))
    refl (tt, tt) $ sets ! (of_opd ! (get ! refl)) refl (tt, tt) $
    sets_last ! (addr ! (through ! refl (stop !))) refl (tt, tt) $
    exec ! 𝓣.C 𝓣.Λ (env code.Mir.locals l) (after 1 (code.function).body) (at_ret _ (W.post y)) $
    sets ! (of_opd ! (get ! refl)) refl (tt, tt) $
    rewrite ! 3 (λ (p : Ptr). ‵ (cell_at full_share table_ptr.mir (word p h ∷ []) b o)) (sym e) refl $
    move ! (1 ∷ 2 ∷ 3 ∷ []) $ fjoin ! $ fjoin ! $ move ! (2 ∷ 3 ∷ 4 ∷ 1 ∷ 0 ∷ []) $ group ! 5 $
    let back : (w : any_table.Denot) →
    ent 𝓤 (sep 𝓤 (sem 𝓛 ((mem any_table).own_at w at_b at_o)) (sem 𝓛 (Rest d h b o)))
    (sem 𝓛 ((mem table_ptr).own_at (with_table d w) b o)) = λ w.
    (qed 𝓛 (‵ (part_at any_table full_share w at_b at_o) ∷ ‵ (Rest d h b o) ∷ []) ∵ move ! (1 ∷ []) $ fsplit !
    $ fsplit ! $ move ! (3 ∷ 0 ∷ []) $
    rewrite ! 0 (λ (p : Ptr). ‵ (lies_at any_table full_share p w)) (sym e) refl $ fjoin ! $ move !
    (1 ∷ 0 ∷ []) $ pair_in ! allocator d.ptr d.alloc h $ fjoin ! $ move ! (1 ∷ 0 ∷ []) $ fjoin ! $
    fpack ! (List Val) (λ (ws : List Val).
    fsep (cell_at full_share table_ptr.mir ws b o) (table_ptr.own_val (with_table d w) ws))
    (word d.ptr h ∷ []) $ done !) in let Left : GName →
    Fml = λ γ'.
    (MutRef (named 0) κ any_table).own_val (record { ref_ptr = (at_b, at_o); ghost_name = γ'; now = x })
    (vptr at_b at_o ∷ []) in use1 𝓛 (later
    (some (λ (γ' : GName).
    ‵ (Left γ') ⊛ (‵ (flft κ q) ⊛ ‵ (follows table_ptr any_table γ γ' (with_table d))))))
    (lends_Part 𝓛 table_ptr any_table (with_table d) (named 0) κ q b o at_b at_o γ (sem 𝓛 (Rest d h b o)) back
    (table_ptr.coded.code d) (table_ptr.coded.code d) x) $ await ! tt $ pick ! (λ γ'.
    returns ! (look_at ! 0 refl) $ free_all ! refl $ split ! $ move ! (1 ∷ []) $ split ! $ move !
    (2 ∷ 0 ∷ 1 ∷ []) $
    -- [the table's borrow; the token; what follows it]
    suffices ! _
    (ends_at 𝓛 f.ended stayed c y (vptr at_b at_o)
    (record { ref_ptr = (at_b, at_o); ghost_name = γ'; now = x }) (tt, tt) (tt, tt)) $
    nothing ! $ nothing ! $ fjoin ! $ join ! $ nothing ! $ move ! (2 ∷ 0 ∷ []) $ join ! $ join ! $ frame ! $
    says ! is_x $ done !))))))))
