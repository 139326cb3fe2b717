-- The names that several proofs cite, passed on from one place.
pub use Rattle.std.proofs.KnownBytes.{Appends-nil, Consumes-nil, Consumes-trans}
pub use Rattle.std.proofs.lemmas.Bool.{cases_Bool, cases_eq, cases_lt, eq-eqb, eqb-true, ne_eqb, true≢false}
pub use Rattle.std.proofs.lemmas.Bool.Decides.{nat_tests}
pub use Rattle.std.proofs.lemmas.Grind.{common_steps, flat_map-append, fold-append, get_or-set_at, take_at_read}
pub use Rattle.std.proofs.lemmas.List.{append-nil, append_assoc, drop-drop, drop_all, drop_more, flat_map_more, get_or-append-add, get_or-drop, get_or-map, get_or_past, length-map, length-take, length-take-le, map-append, map-id, take-append-drop, take_all, take_at, take_rest}
pub use Rattle.std.proofs.lemmas.List.Elements.{All-append, All-cons, All-contains, All-from_recursion, All-map, All-nil, Contains-append_left, Contains-push, Contains-push_cases, recursion_from_All}
pub use Rattle.std.proofs.lemmas.Option.{get_or_from_slice_get, none-some, slice_get-get_or, slice_get-map, slice_get_past, slice_get_read, slice_get_within}
pub use Rattle.std.specs.Hash.DefaultHasher.{finish, write_byte}
pub use Rattle.std.specs.Int.{to_le_bytes, w16, w32, w64}
pub use Rattle.std.specs.Io.KnownBytes.{Appends, Consumes, IsAtEnd, append_known}
pub use Rattle.std.specs.List.{All, AllByRecursion, count_by, filter, find, flat_map, fold, position, prefix_len, slice_get, sum}
pub use Rattle.std.specs.Option.{option_copied, option_map}
pub use Rattle.intaglio_frozen.proofs.Joined.{map-push, maps-join}
pub use Rattle.intaglio_frozen.proofs.Renumbered.{renumbered, same-string}
pub use Rattle.intaglio_frozen.specs.Merging.{AreMaps, IsMap, decode, renumber, union}
pub use Rattle.intaglio_frozen.specs.SetId.{set_of_shards}
pub use Rattle.intaglio_frozen.specs.Shards.{AreWithin, BelongTo, first_shards, joined, joined_map, shard, shard_of, sum_of}
pub use Rattle.intaglio_frozen.specs.declared.kind.FrozenKind.{FrozenKind}
pub use Rattle.intaglio_hash.specs.Push.{number}
pub use Rattle.intaglio_interner.specs.Issue.{interned, interned_all, issue_from}
pub use Rattle.intaglio_interner.specs.State.{State}
pub use Rattle.intaglio_lines.proofs.Appended.{Appends-append, front-none, front-then, held-none, held-nothing}
pub use Rattle.intaglio_lines.proofs.ByLines.{ended-append, flat_map-lines_of, lines_of-append, lines_of-are-lines, lines_of-more, texts}
pub use Rattle.intaglio_lines.specs.Decoded.{IsLine, decoded, is_ended}
pub use Rattle.intaglio_lines.specs.Lines.{lines_of}
pub use Rattle.intaglio_lines.specs.Output.{number_line, spelling_line}
pub use Rattle.intaglio_lines.specs.Puts.{IsFront, Writes}
pub use Rattle.intaglio_columns.specs.Answers.{AreFound, IsFound, answer_line, answers, longest, position_in, total, unknown}
pub use Rattle.intaglio_columns.specs.Codes.{AreCodes, AreCodesBefore, IsCode, is_unknown}
pub use Rattle.intaglio_columns.specs.Columns.{DecodesToInput, HasNoEnd, code_in, code_of, code_pieces, codes_of, encoded_line, has_code, line_of}
pub use Rattle.intaglio_columns.specs.Counting.{AreInOrder, IsCountsFault, IsRankFault, count_line, occurring, rank_line, rank_of, ranks}
pub use Rattle.intaglio_columns.specs.Fault.{HasGap, HasNoString}
pub use Rattle.intaglio_columns.specs.Frozen.{Allows, IsRefusal, distinct_lines}
pub use Rattle.intaglio_columns.specs.Interning.{HasInterned, IsInterned}
pub use Rattle.intaglio_columns.specs.IsColumn.{HasChecksum, IsColumn, IsHeaderOf, end_of, magic}
pub use Rattle.intaglio_columns.specs.Joining.{IsMapColumn}
pub use Rattle.intaglio_columns.specs.Layout.{checksum_of, codes_at, kind, rows, shards, source_kind, source_of, strings, widened, width}
pub use Rattle.intaglio_columns.specs.Matching.{AreMarked}
pub use Rattle.intaglio_columns.specs.Renumbering.{KeepsLines, LeadAlike, Meet, joined_codes, source_for}
pub use Rattle.intaglio_columns.specs.RowLines.{AreRangesBefore, IsRangeFault, IsRowsFault, code_line, row_lines, string_at}
pub use Rattle.intaglio_columns.specs.Rows.{AreCounts, CountsAmong, IsFirstRow, IsNextRow, count_of, overlaid, rows_from, rows_of, rows_past}
pub use Rattle.intaglio_columns.specs.ShardMerging.{AreOwn, AreOwnBefore}
pub use Rattle.intaglio_columns.specs.Sharding.{IsShared, KeepsInput, id_of, set_of, strings_in}
pub use Rattle.intaglio_columns.specs.Source.{fits}
pub use Rattle.intaglio_columns.specs.Translation.{AllFit, GoesOn, HasTranslated, IsFailure, IsSplit, ReadsMore, ReportsAmong, ReportsMisfit, ReportsPiece, StartsWith, WritesPart, last_piece}
pub use Rattle.intaglio_columns.specs.Width.{bytes_of, greatest, missing, width_for}
pub use Rattle.intaglio_columns.specs.Writing.{HasRanges, code_bytes, file_of, header_for, header_of, reserved_bytes, sealed, source_bytes, start_of}
pub use Rattle.intaglio_columns.specs.declared.file.source.RowSource.{RowSource}
pub use Rattle.intaglio_columns.specs.declared.file.width.Width.{Width}
pub use Rattle.intaglio_columns.specs.declared.file.width.Width.TheVariants.{Four, One, Two}
pub use Rattle.intaglio_columns.specs.declared.translate.TranslateError.{TranslateError}
pub use Rattle.intaglio_columns.specs.declared.translate.TranslateError.TheVariants.{Misfit, Stream}
