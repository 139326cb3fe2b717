-- The names that several proofs cite, passed on from one place.
pub use Rattle.std.proofs.Common.{◌≡◌, ℕ, zero, suc, ◌+◌, ◌-◌, ◌<◌, ◌≤◌, Bool, true, false, List, [], ◌∷◌, ◌++◌, length, take, drop, refl, sym, ap, ◌∙◌, arith, rules, Err, cond, inl, inr, map, subst, le_refl, length-append, append_assoc, append-nil, Some, Ok, length-drop}
pub use Rattle.std.specs.Prelude.{◌≢◌, slice_get, ◌==◌, Option, None, Result, is_some, unwrap_or, MatchOption, IsUtf8}
pub use Rattle.std.proofs.lemmas.Grind.{common_steps}
pub use Rattle.std.proofs.Math.ListN.{get_or, set}
pub use Rattle.std.proofs.lemmas.List.{take_more, take_more_set, take_at, drop-set-lt, take-append-drop, drop_at, drop-drop, length-map, map-append, map_push}
pub use Rattle.std.proofs.lemmas.Option.{slice_get_within, none-some}
pub use Rattle.std.proofs.lemmas.Result.{IfOk-at_ok, IfErr-at_err}
pub use Rattle.std.specs.List.{concat, take-map}
pub use Rattle.intaglio_interner.specs.Change.{AddsNew, InternsValue, IsOutOfMemory, IsRefused, TakesBack}
pub use Rattle.intaglio_interner.specs.Issue.{issued, interned, interned_all, issue_from}
pub use Rattle.intaglio_interner.specs.State.{State, first, Table, first_of}
pub use Rattle.intaglio_frozen.proofs.HashedAhead.{Continues, all_first, first as first_ahead, more, drop_there, take_there}
pub use Rattle.intaglio_c.specs.Cited.{bytes_content_bytes, KeyedState, components, path_content_bytes, StaleMark, AreFirst, Either, are_ends, is_batch, pieces, AreFirstCopied, AreStored, ends_from, own_id, set_in, AreInterned, IsBegun, IsRolledBack, InternsOr, IsHash, HasKey, broken, copies_static, fault, first_fault, key, earlier, utf8_fault, IsFaultless, fault_in, seen, Seen, look_up, position, unless, IsChangedBy, packed_bytes, as_bytes, seen_of, Interns, InternsBy, InternsNew, AnyTable, TableKind, Refusal, BadEnds, Full, NoMemory, NotUtf8, Key, InternError, Overflow, Memory, Owned, Path, Packed, symbol_answer, found, Absorbs}
