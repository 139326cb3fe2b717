-- Names of other libraries that the proofs cite.
pub use Rattle.intaglio_content.specs.Key.{Key}
pub use Rattle.intaglio_content.specs.Store.{Doubles, DoublesBytes, IsAddedOne, IsMoved, IsPushed, byte_room}
pub use Rattle.intaglio_content.specs.Work.{Event, hashed, placed}
pub use Rattle.intaglio_interner.specs.Batch.{AreHashed, FailsEach, IfOverflow, InGroups, InternsAll, InternsEach, IsInterning, IsLookUp, StaysValid, ahead_after, group_of, hashed_ahead, hashings}
pub use Rattle.intaglio_interner.specs.Bytes.{GrowsBytes, GrowsFor}
pub use Rattle.intaglio_interner.specs.Change.{AddsNew, HasNoLessRoom, InternsValue, IsAdded, IsAppended, IsOutOfMemory, IsRefused}
pub use Rattle.intaglio_interner.specs.Cost.{Adds, InOrder, IsAddingCost, SearchCost, hashed_keys, placed_count}
pub use Rattle.intaglio_interner.specs.Growths.{CallGrows, GrowsSeldom, Room, RunsGrowing, bytes_of, changes, room}
pub use Rattle.intaglio_interner.specs.Issue.{interned, interned_all, issue, issue_from, issued}
pub use Rattle.intaglio_interner.specs.Lookup.{FindsEach, FindsEachKey, FindsInterned, IsFound, IsStored, Keeps, KeepsBelow, StoresEachKey}
pub use Rattle.intaglio_interner.specs.Run.{HoldsBytes, HonoursRoom, IsRefusal, KeepsContents, KeepsRoom, Runs, RunsValues, UsesRoom, searched_keys}
pub use Rattle.intaglio_interner.specs.State.{IsValid, State, first, first_of, key_eq}
pub use Rattle.intaglio_interner.specs.Step.{Step, StepCost, found}
pub use Rattle.intaglio_interner.specs.declared.runs.Call.{Call}
pub use Rattle.intaglio_interner.specs.declared.runs.Call.TheVariants.{Check, Clear, Contains, Get, GetInterned, Intern, IsEmpty, IsInterned, Len, Reserve, ShrinkTo, ShrinkToFit, TakeBack}
pub use Rattle.intaglio_interner.specs.declared.runs.Reply.{Reply}
pub use Rattle.intaglio_symbol.specs.declared.error.InternError.{InternError}
pub use Rattle.std.proofs.Common.{add-one, All, Bool, Err, IfErr, IfOk, IfSome, List, MatchOption, None, Ok, OnOk, Option, Result, Some, [], alloc_error, ap, append-nil, append_assoc, arith, cond, drop, drop-cons, false, get_or, inl, inr, is_err, is_some, length, length-append, length-drop, ltb, map, max, option_copied, option_map, refl, rules, suc, sym, take, true, unwrap_or, vec_capacity, vec_len, zero, ℕ, ◌*◌, ◌++◌, ◌+◌, ◌-◌, ◌<◌, ◌^◌, ◌∙◌, ◌∷◌, ◌≡◌, ◌≢◌, ◌≤◌, ◌⊎◌}
pub use Rattle.std.proofs.lemmas.Bool.{cases_eq, cases_lt, false_from_ne_true, false≢true, le-ltb, lt-ltb, ne_eqb}
pub use Rattle.std.proofs.lemmas.Grind.{common_steps}
pub use Rattle.std.proofs.lemmas.List.{length-map, length-take, length-take-le, map-append, take-append-drop, take_all, take_more}
pub use Rattle.std.proofs.lemmas.List.Elements.{All-cons, All-nil, All-push}
pub use Rattle.std.specs.Prelude.{nat_eq, nat_lt, slice_get, sum_by}
pub use Rattle.std.specs.Vec.Iter.{into_iter_items, into_iter_len}
