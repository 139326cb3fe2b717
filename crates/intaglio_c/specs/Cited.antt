-- What the sources cite, passed on from one place.
pub use Rattle.intaglio_c.specs.Words.{AreSectionsOf, Capacity, CapacityOverflow, Empties, Err, HasHeader, HasRows, HasSections, IfErr, IfOk, IsColumn, IsFrozen, IsTrue, Limit, List, NoMemory, None, Ok, Some, [], bytes_of, codes, components, drop, empty_table, false, get_or, kind, length, map, min, option_map, overlaid, rows_of, set_of_merge, set_of_shards, shard_of, slice_get, text_kind, true, width_of, with_keys, ℕ, ⊤, bytes_content_bytes, KeyedState, path_content_bytes, StaleMark, AreFirst, AnyTable, TableKind, Refusal, BadEnds, Full, NotUtf8, Key, InternError, Overflow, Memory, Owned, Path, Packed, unwrap_or, given, initial_hasher}
pub use Rattle.intaglio_c.specs.Handles.{IsCodeOf, answer_code, room_refusal, symbol_answer, IsWritten, found, ChangesWithCode, Keeps, ChangesWithSymbol, filled, known, stored, Clears, HoldsNone, Makes, table_of, Gives}
pub use Rattle.intaglio_c.specs.Batches.{AreAll, CopiesEach, InternsAll, InternsOr, IsBegun, IsRolledBack, IsNumberIn, or_absent, are_ends, is_batch, pieces, CopiesAll, FindsAll, Either, AreFirstCopied, AreStored, ends_from, AreInterned}
pub use Rattle.intaglio_c.specs.Columns.{ChecksColumn, Counts, WritesColumn, column_refusal, write_refusal}
pub use Rattle.intaglio_c.specs.Frozen.{MayBeIn, Absorbs, frozen_kind, Checks, FindsEachTrusted, FreezesHeld, ReadsSections, position_in, freeze_refusal, frozen_refusal, ReadsSource, ReadsTarget, IdentifiesHeld, ReadsReference, place_in, single, MakesSet, own_id, set_in}
pub use Rattle.intaglio_c.specs.Seen.{IsHash, fault, keyed_hash, utf8_fault, rule_of, broken, kind_of, TakesStep, contents_of, seen, IsFaultless, look_up, IsOutside, most_of, new_table, room_of, IsChanged, Interns, InternsStatic, Reserves, Shrinks, TakesBack, HasKey, copies_static, first_fault, key, earlier, fault_in, Seen, position, unless, IsChangedBy, packed_bytes, as_bytes, seen_of, InternsBy, InternsNew}
