-- The words that several definitions cite, passed on from one place.
pub use Rattle.intaglio_bytes.specs.BytesContent.{bytes_content_bytes}
pub use Rattle.intaglio_c.specs.declared.any_table.AnyTable.{AnyTable}
pub use Rattle.intaglio_c.specs.declared.any_table.size.Size.{Size}
pub use Rattle.intaglio_c.specs.declared.any_table.size.Size.TheVariants.{Capacity, Limit}
pub use Rattle.intaglio_c.specs.declared.kind.Rule.{Rule}
pub use Rattle.intaglio_c.specs.declared.kind.TableKind.{TableKind}
pub use Rattle.intaglio_c.specs.declared.kind.TableKind.TheVariants.{Owned, Path, Packed}
pub use Rattle.intaglio_c.specs.declared.reference.Reference.{Reference}
pub use Rattle.intaglio_c.specs.declared.refusal.Refusal.{Refusal}
pub use Rattle.intaglio_c.specs.declared.refusal.Refusal.TheVariants.{NoTable, Full, NoMemory, TooLarge, Stale, NotUtf8, InnerZero, MissingZero, BadEnds, NoSymbol, NoSpace, NoKind, NotFrozen, OtherVersion, Reserved, TooMany, Truncated, TextEnds, Unused, NotFound, TooLong, Equal, NoPlaces, NotColumn, BadWidth, TrailingBytes, BadShard, OtherIdentity, Damaged}
pub use Rattle.intaglio_columns.specs.IsColumn.{Describes, HasRows, IsColumn}
pub use Rattle.intaglio_columns.specs.Layout.{codes, rows, shards as shards_of, source_of, width as width_of}
pub use Rattle.intaglio_columns.specs.Rows.{AreCounts, overlaid, rows_of}
pub use Rattle.intaglio_columns.specs.Width.{bytes_of}
pub use Rattle.intaglio_columns.specs.Writing.{file_of, header_for, lines}
pub use Rattle.intaglio_columns.specs.declared.file.error.ColumnError.{ColumnError}
pub use Rattle.intaglio_columns.specs.declared.file.error.ColumnWriteError.{ColumnWriteError}
pub use Rattle.intaglio_content.specs.Key.{Key, key_hash}
pub use Rattle.intaglio_cstr.specs.Zeros.{first_zero}
pub use Rattle.intaglio_frozen.specs.Ahead.{AreFirst}
pub use Rattle.intaglio_frozen.specs.Freezing.{HasKeys, IsTableOf}
pub use Rattle.intaglio_frozen.specs.Id.{IsIdOfStrings}
pub use Rattle.intaglio_frozen.specs.Identity.{is_text_number}
pub use Rattle.intaglio_frozen.specs.IsFrozen.{HasSections, IsBlock, IsFrozen, HasHeader, number_of, text_kind}
pub use Rattle.intaglio_frozen.specs.Layout.{kind, set0, set1, shard}
pub use Rattle.intaglio_frozen.specs.Sections.{AreSectionsOf}
pub use Rattle.intaglio_frozen.specs.SetId.{IsAt, set_of_merge, set_of_shards}
pub use Rattle.intaglio_frozen.specs.Shards.{shard_of}
pub use Rattle.intaglio_frozen.specs.declared.error.FreezeError.{FreezeError}
pub use Rattle.intaglio_frozen.specs.declared.error.FrozenError.{FrozenError}
pub use Rattle.intaglio_frozen.specs.declared.id.DictionaryId.{DictionaryId}
pub use Rattle.intaglio_frozen.specs.declared.kind.FrozenKind.{FrozenKind}
pub use Rattle.intaglio_frozen.specs.declared.sections.Sections.{Sections}
pub use Rattle.intaglio_frozen.specs.declared.set_id.Place.{Place}
pub use Rattle.intaglio_frozen.specs.declared.set_id.SetId.{SetId}
pub use Rattle.intaglio_hash.specs.KeyedState.{initial_hasher}
pub use Rattle.intaglio_hash.specs.declared.state.KeyedState.{KeyedState}
pub use Rattle.intaglio_interner.specs.Change.{Empties, IsAppended, IsOutOfMemory, IsReserved, IsShrunk, IsTruncated, IsUnreserved}
pub use Rattle.intaglio_interner.specs.Issue.{issue_from, interned_all}
pub use Rattle.intaglio_interner.specs.State.{State, first, empty_state, empty_table}
pub use Rattle.intaglio_path.specs.Components.{components}
pub use Rattle.intaglio_path.specs.PathContent.{path_content_bytes}
pub use Rattle.intaglio_symbol.specs.declared.error.InternError.{InternError}
pub use Rattle.intaglio_symbol.specs.declared.error.InternError.TheVariants.{Overflow, Memory}
pub use Rattle.intaglio_symbol.specs.declared.error.RoomError.{RoomError}
pub use Rattle.intaglio_symbol.specs.declared.error.RoomError.TheVariants.{CapacityOverflow}
pub use Rattle.intaglio_symbol.specs.declared.error.StaleMark.{StaleMark}
pub use Rattle.std.specs.Hash.DefaultHasher.{write, finish, with_keys}
pub use Rattle.std.specs.Bool.{then_some as given}
pub use Rattle.std.specs.List.{concat}
pub use Rattle.std.specs.Prelude.{ℕ, Bool, true, false, Option, Some, None, Result, Ok, Err, nat_lt, List, [], length, map, take, drop, slice_get, get_or, MatchOption, MatchResult, unwrap_or, IsErrAnd, option_map, option_and_then, IsSomeAnd, ⊤, IfOk, IfErr, min, IsTrue}
pub use Rattle.std.specs.Str.{is_utf8}
pub use Rattle.std.specs.declared.hash.DefaultHasher.{DefaultHasher}
