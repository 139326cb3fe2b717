-- The names that several proofs cite, passed on from one place.
pub use Rattle.std.proofs.Math.Seq.{drop-append-add, take-add, take-append-add}
pub use Rattle.std.proofs.lemmas.Bool.{and_parts, cases_eq, false_from_ne_true, not-true}
pub use Rattle.std.proofs.lemmas.Grind.{common_steps, flat_map-append}
pub use Rattle.std.proofs.lemmas.List.{append-nil, append_cancel_left, map-append, nil_from_length, take-append-le, take_at, take_min, take_more, take_rest}
pub use Rattle.std.proofs.lemmas.List.Elements.{All-append, All-cons, All-from_get_or, All-nil, recursion_from_All}
pub use Rattle.std.proofs.lemmas.List.Splits.{length-slice_split, slice_split_at, slice_split_first, slice_split_none}
pub use Rattle.std.proofs.lemmas.List.Sums.{fails_before_first, passes_at_first, position_or_len_is, prefix_len-le-length, split_at_first}
pub use Rattle.std.specs.Io.KnownBytes.{Appends, Consumes, Keeps, append_known}
pub use Rattle.std.specs.List.{All, AllByRecursion, after_first, before_first, flat_map, list_any, position, position_or_len, slice_get}
pub use Rattle.std.specs.Str.{IsUtf8, all_ascii_digits}
pub use Rattle.std.specs.Str.Parse.{digits_value}
pub use Rattle.intaglio_lines.specs.Decoded.{Decodes, Holds, IsLine, is_ended, with_last_line_ended}
pub use Rattle.intaglio_lines.specs.Fault.{AreKnown, fault_of, first_fault, is_blank, is_number, spelling_count, spellings_of, symbol_lines}
pub use Rattle.intaglio_lines.specs.Lines.{lines_of, without_empty_last}
pub use Rattle.intaglio_lines.specs.Output.{number_line, output_of, spelling_line}
