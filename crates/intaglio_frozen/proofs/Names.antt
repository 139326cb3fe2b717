-- The names that several proofs cite, passed on from one place.
pub use Rattle.std.proofs.lemmas.Bool.{cases_eq, cases_lt, eqb-false, eqb-true}
pub use Rattle.std.proofs.lemmas.Grind.{common_steps, flat_map-append, take_at_read}
pub use Rattle.std.proofs.lemmas.List.{drop-drop, drop_all, drop_more, get_or-drop, get_or-map, get_or_default, length-append, length-map, length-take-le, map-append, map-id, map_more, map_push, take-append-drop, take-map, take_all, take_more_set}
pub use Rattle.std.proofs.lemmas.List.Sums.{count_by-le-length, fold-append, fold_more, sum_by_more}
pub use Rattle.std.proofs.lemmas.Option.{get_or_from_slice_get, gets, slice_get-get_or, slice_get-map, slice_get_past, slice_get_read, slice_get_within}
pub use Rattle.std.proofs.lemmas.Result.{err_from_is_err_and}
pub use Rattle.std.specs.Hash.DefaultHasher.{with_keys, write_byte}
pub use Rattle.std.specs.Int.{to_le_bytes, w32}
pub use Rattle.std.specs.List.{concat, flat_map}
pub use Rattle.intaglio_content.specs.Key.{Key, hash_of, packed_key}
pub use Rattle.intaglio_interner.proofs.First.{first-append, first-none, first-some, key_eq-decides, key_eq-unequal, or_at, some-below}
pub use Rattle.intaglio_interner.proofs.Held.{content-still, first-still, interned_all-append, interned_all-longer, slice_get-front}
pub use Rattle.intaglio_interner.proofs.Laws.{first-key, issued-found, mapped-some}
pub use Rattle.intaglio_interner.specs.Batch.{IfOverflow}
pub use Rattle.intaglio_interner.specs.Issue.{interned, interned_all, issue_from, issued}
pub use Rattle.intaglio_interner.specs.State.{AreDistinct, Distinct, State, first, first_of}
pub use Rattle.intaglio_symbol.specs.declared.error.InternError.{InternError}
pub use Rattle.intaglio_symbol.specs.declared.error.InternError.TheVariants.{Memory, Overflow}
pub use Rattle.intaglio_frozen.specs.Ahead.{AreFirst}
pub use Rattle.intaglio_frozen.specs.Checked.{AreCharEnds, AreFoundBelow, AreFoundFrom, AreHashesFrom, IsHashAt}
pub use Rattle.intaglio_frozen.specs.Freezing.{AreEqual, HasNoEqual, LacksPlaces, after_string}
pub use Rattle.intaglio_frozen.specs.Id.{IsIdOf, IsIdOfStrings, end_behind, end_bytes}
pub use Rattle.intaglio_frozen.specs.Identity.{HasId, ends_section, is_text_number, text_section}
pub use Rattle.intaglio_frozen.specs.IsFrozen.{AreTexts, AreTextsBefore, IsBlock, IsFrozen, no_symbol, number_of, text_kind, used_below}
pub use Rattle.intaglio_frozen.specs.Laws.{MapsAreUnique, MapsCompose, MergingNests, RenumberingKeepsStrings, ShardMapsJoin, ShardsMerge}
pub use Rattle.intaglio_frozen.specs.Layout.{count, ends, ends_at, groups_for, key0, key1, kind, numbers_at, own0, own1, pilots_at, symbol_of, tag_of, tags_at, text_at}
pub use Rattle.intaglio_frozen.specs.LookUp.{FindsAll, find_at, hash_under, if_same, scaled}
pub use Rattle.intaglio_frozen.specs.Marks.{AreMarked, AreMembers, taken_mark}
pub use Rattle.intaglio_frozen.specs.Merging.{AreKeys, AreMaps, IsMap, decode, missing, renumber, string_key, union}
pub use Rattle.intaglio_frozen.specs.SetId.{first_kind, hashed_under, merge_bytes, number_bytes, set_bytes, set_of_shards, shard_bytes, shards_bytes}
pub use Rattle.intaglio_frozen.specs.Shards.{AreAllDistinct, AreEachDistinct, AreNumbered, AreShardMaps, AreShards, BelongBefore, BelongTo, first_shards, joined, joined_map, shard, starts_from, sum_of}
pub use Rattle.intaglio_frozen.specs.Strings.{AreEnds, strings_from}
pub use Rattle.intaglio_frozen.specs.Stuck.{HasNoPlace, HaveOwnPlaces, IsBefore, IsBeforeAt, IsEarlierAt, group_at, place_under}
pub use Rattle.intaglio_frozen.specs.declared.id.DictionaryId.{DictionaryId}
