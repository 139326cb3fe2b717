-- What the walks over a pointer with an allocator share. `Box`, `BoxParts` and `TablePtr` are each a struct
-- of the two, and so is the pair that a box is taken apart into.
pub use mathlib.Core.List.{[], ◌∷◌, List, ◌++◌}
pub use mathlib.Core.Path.{refl, ◌≡◌, sym, ap, subst, ◌∙◌}
pub use base.Fml.{ftrue, Fml, GName, flft, fsep}
pub use base.Logic.{ent, sep, id⊢, emp}
pub use contract.BorrowLft.{◌⊑◌}
pub use contract.Monad.{fact, fact_i}
pub use contract.Running.{tables}
pub use denote.Exit.{yes, no}
pub use denote.Param.{param, bounded, layout}
pub use denote.Param.Laws.{param_laws, Laws}
pub use denote.RawPtr.{null_ptr, Ptr, lies_at, in_a_block, rawptr_Lawful, ptr_val, RawPtr}
pub use denote.Signature.{plain}
pub use denote.Steps.{nothing, heard, opens, only, peeks}
pub use denote.Triple.Call.{calls_at_last, calls_at}
pub use denote.Triple.Clauses.{Lasts, lasts}
pub use denote.Triple.Spec.{triple_of}
pub use denote.Triple.Table.{framed}
pub use denote.Triple.Walked.{Stays, walk_of, says, stay_dropped, Goes-dropped, ends_at, Goes-spent_ref}
pub use lib.Dec.{lit<, T as IsT, T}
pub use mir.MapTy.{inst_fn}
pub use mir.Syntax.{named, a_type, dcons, dnil, ty_ptr, tcons, tnil}
pub use mir.Val.{Val, vptr, has_ty, WT, vstruct, vcons, vnil, of_list, has_tys}
pub use prog.Wp.{WpFn}
pub use types.ByLocal.{alloc_all, pass_all, free_all, look_at, get, sets, through, sets_last, env, get_in, lands_last, lands_as}
pub use types.Kit.{‵, ◌⊛◌, ◌$◌, ◌∵◌, !, qed, done, move, keep, split, join, fjoin, suffices, raw, some, later, prop, at_ret, use1, await, pick, fsplit, fsplit3, fpack, feq_l, regoal, rewrite, frame, group, drop, use0, feq_i, Goal, Seq, Step, step, Item, fpick}
pub use types.Logic.{sem, Logic}
pub use types.Part.{agg, whole, sub, look_in}
pub use types.Run.{enter, of_opd, lit, no_more, and_then, returns, load, stop, fld, addr, first, blocks, exec}
pub use Rattle.std.below.core.proofs.alloc.Calls.{Goes-blank}
pub use Rattle.std.proofs.alloc.Global.TheLaws.{lowers, the_row_laws}
pub use Rattle.std.proofs.raw_atomic.Walks.{proved, proved_at}
pub use Rattle.std.specs.Prelude.{IsSomeAnd, ⊤, Option, None, Some}
pub use Rattle.std.specs.contracts.alloc.Global.{the_row as allocator}
pub use Rattle.std.specs.contracts.boxed.Box.{the_row as box_of}
pub use Rattle.std.specs.contracts.impls.GlobalAllocator.TheImpl.{ghosts}
pub use Rattle.intaglio_c.specs.Owned.{ptr_owns}
pub use Rattle.intaglio_c.specs.contracts.any_table.AnyTable.{the_row as any_table}
pub use Rattle.intaglio_c.specs.contracts.table_ptr.BoxParts.{the_row as parts_of}
pub use Rattle.intaglio_c.specs.contracts.table_ptr.TablePtr.{the_row as table_ptr}
use seplogic.Ra.Ura.{Ura}
use denote.RattleType.{RattleType, Valss}
use denote.Laws.{Is, shows}
use denote.Param.Steps.{one_value}
use denote.Struct.Struct.{Shape, Struct, within, as_fields}

-- the value that is there
pub there : {X : Type 0} (o : Option X) → IsSomeAnd o (λ _. ⊤) → (x : X) × (o ≡ Some x)
there None h = absurd h
there (Some x) h = (x, refl)

-- a pointer and an allocator as the machine has them, where h is the allocator's value
abbrev pub word : Ptr → Val → Val
word p h = vstruct (vcons (ptr_val p) (vcons h vnil))

module _ (Z : RattleType) where
  -- a struct of the two, under no name: what one owns doesn't depend on its name
  abbrev pair : Shape
  pair = record { name = []; args = []; types = []; fields = RawPtr ∷ Z ∷ [] }

  abbrev pub pair_owns : Ptr → Z.Denot → List Val → Fml
  pair_owns p a vs = (Struct pair).own_val (p, (a, tt)) vs

  -- a value of the allocator's type
  abbrev pub Fits : Val → Type 0
  Fits h = T (has_ty (layout Z) h) × WT h

  -- a pointer and an allocator have the types of the fields
  pub word_fits : {M : Type 1} {𝓤 : Ura M} (𝓛 : Logic 𝓤) (p : Ptr) (h : Val) → Fits h →
      T (has_tys (tcons ty_ptr (tcons (layout Z) tnil)) (vcons (ptr_val p) (vcons h vnil))) × WT (word p h)
  word_fits 𝓛 p h fits = as_fields (ty_ptr ∷ layout Z ∷ []) (ptr_val p ∷ h ∷ [])
      (((rawptr_Lawful 𝓛).typed p (ptr_val p ∷ []) refl).0, (fits, tt))

module _ {M : Type 1} {𝓤 : Ura M} {𝓛 : Logic 𝓤} {K : Type 0} {Γ : List (Item 𝓤)} {G : Goal 𝓤 𝓛.H} where
  -- a struct of the two is taken apart: it is one value, and what is left to own is the allocator
  pub pair_out : K → (Z : RattleType) (laws : Laws Z) (p : Ptr) (a : Z.Denot) (vs : List Val)
      → ((h : Val) → vs ≡ word p h ∷ [] → Fits Z h → Seq K 𝓛 (‵ (Z.own_val a (h ∷ [])) ∷ Γ) G)
      → Seq K 𝓛 (‵ (pair_owns Z p a vs) ∷ Γ) G
  pair_out t Z laws p a vs k = fpick t (λ parts.
      fsplit t $ feq_l t (λ whole. fsplit t $ feq_l t (λ first. fsplit t $ move t (1 ∷ []) $ drop t $
      peeks t Z (Is Z) (shows 𝓛 Z) a parts.1.0 (λ is.
      one_value (layout Z) (λ us. parts.1.0 ≡ us → Seq K 𝓛 (‵ (Z.own_val a parts.1.0) ∷ Γ) G) parts.1.0
      (((param_laws 0 Z laws).lawful 𝓛).typed a parts.1.0 is)
      (λ h fits last. rewrite t 0 (λ (us : List Val). ‵ (Z.own_val a us)) last refl $
      k h (whole ∙ (λ i. vstruct (of_list (first i ++ (last i ++ []))) ∷ [])) fits) refl))))

  -- and made
  pub pair_in : K → (Z : RattleType) (p : Ptr) (a : Z.Denot) (h : Val) →
      Step K 𝓛 (‵ (pair_owns Z p a (word p h ∷ [])) ∷ Γ) G (‵ (Z.own_val a (h ∷ [])) ∷ Γ) G
  pair_in t Z p a h = step (λ s.
      nothing t $ move t (1 ∷ 0 ∷ []) $ fjoin t $ feq_i t (List Val) (ptr_val p ∷ []) (ptr_val p ∷ []) refl
      $ fjoin t $ feq_i t (List Val) (word p h ∷ []) (word p h ∷ []) refl $ fjoin t $
      fpack t (Valss (RawPtr ∷ Z ∷ [])) (within (pair Z) (p, (a, tt)) (word p h ∷ [])) (
        ptr_val p ∷ [],
        (h ∷ [], tt),
      ) $ s)
