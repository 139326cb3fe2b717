-- Names of other libraries that the proofs cite.
pub use Rattle.intaglio_content.specs.Key.{Key, hash_of}
pub use Rattle.intaglio_content.specs.Store.{IsCompared, IsMoved}
pub use Rattle.intaglio_content.specs.Work.{Event, compared, hashed, placed, step}
pub use Rattle.intaglio_core.specs.IndexOf.{AreHashed, IndexState, LookupCost, PlacesAtMost}
pub use Rattle.intaglio_core.specs.Indexed.{AddCost, IsIndexed}
pub use Rattle.intaglio_interner.proofs.First.{first-none, first-some, found-within, key_eq-decides, none-each}
pub use Rattle.intaglio_interner.proofs.Laws.{added, cut-keeps, found-again, read-found, spelling-found}
pub use Rattle.intaglio_interner.specs.Cost.{Adds, Costs, InternCost, IsGrowthCost, IsRecorded, IsRoomCost, IsSearchCost, KnownInternCost, KnownSearchCost, SearchCost, bucket_keys, hashed_keys, placed_count, sought_keys, step_count, stored_keys}
pub use Rattle.intaglio_interner.specs.State.{AreDistinct, IsValid, State, first, first_of, key_eq}
pub use Rattle.std.proofs.Common.{Bool, Err, List, None, Ok, Option, Result, Some, [], ap, append-nil, append_assoc, arith, cond, eqb, false, filter, get_or, inl, inr, length, length-append, map, max, min, option_copied, option_map, refl, replicate, rules, slice_get, subst, suc, sym, take, true, zero, ℕ, ◌%◌, ◌&&◌, ◌*◌, ◌++◌, ◌+◌, ◌-◌, ◌/◌, ◌<◌, ◌==◌, ◌^◌, ◌∙◌, ◌∷◌, ◌≡◌, ◌≢◌, ◌≤◌}
pub use Rattle.std.proofs.Math.Seq.{get_or-append_seam, take-length}
pub use Rattle.std.proofs.lemmas.Bool.{cases_lt, eq-eqb, eqb-true, ne_eqb}
pub use Rattle.std.proofs.lemmas.Grind.{common_steps}
pub use Rattle.std.proofs.lemmas.List.{get_or-map, get_or_append_left, get_or_default, length-map, length-take-le, map-append, map-id, take-map}
pub use Rattle.std.proofs.lemmas.List.Elements.{All-push, All-append, All-cons, All-contains, All-filter, All-from_recursion, All-map, All-nil, Contains-append_right, filter_passes}
pub use Rattle.std.proofs.lemmas.Map.Made.{AllPairs-from_IsDistinct, IsDistinct-from_AllPairs, IsDistinct-keys_filter, is_member-Decides, length-le_from_is_member}
pub use Rattle.std.specs.List.{All, AllByRecursion, AllPairs, Contains, IsDistinct}
