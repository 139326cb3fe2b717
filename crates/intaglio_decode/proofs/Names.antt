-- The names that several proofs cite, passed on from one place.
pub use Rattle.std.proofs.lemmas.Grind.{common_steps}
pub use Rattle.std.proofs.lemmas.List.{get_or-map, length-map, length-take-le, map-append, take_all, take_more}
pub use Rattle.std.proofs.lemmas.List.Elements.{All-from_recursion, All-map, All-nil, All-push, recursion_from_All}
pub use Rattle.std.proofs.lemmas.List.Folds.{find-append, flat_map-map}
pub use Rattle.std.specs.List.{All, AllByRecursion, before_first, flat_map, list_any}
pub use Rattle.std.specs.Str.Parse.{AllDigits, digits_value}
pub use Rattle.intaglio_content.specs.Key.{Key}
pub use Rattle.intaglio_interner.proofs.First.{first-some, key_eq-decides, some-below}
pub use Rattle.intaglio_interner.proofs.Laws.{cut-keeps, issued-found}
pub use Rattle.intaglio_interner.specs.Issue.{interned, interned_all, issue, issue_from, issued}
pub use Rattle.intaglio_interner.specs.State.{Distinct, State, first, key_eq}
pub use Rattle.intaglio_lines.proofs.ByLines.{flat_map-lines_of, lines_of-are-lines, lines_of-flat_map}
pub use Rattle.intaglio_lines.proofs.Numbers.{digits, digits-from-number}
pub use Rattle.intaglio_lines.proofs.Reading.{faults-exact, holds-read, known-lines, one-output, one-reading}
pub use Rattle.intaglio_lines.specs.Decoded.{Decodes, Holds, IsLine, decoded, is_ended}
pub use Rattle.intaglio_lines.specs.Encoded.{encoded, encoded_by}
pub use Rattle.intaglio_lines.specs.Fault.{AreKnown, Fault, first_fault, is_blank, is_number, spellings_of, symbol_lines}
pub use Rattle.intaglio_lines.specs.Kind.{key_of}
pub use Rattle.intaglio_lines.specs.Lines.{lines_of}
pub use Rattle.intaglio_lines.specs.Output.{spelling_line}
pub use Rattle.intaglio_decode.specs.Laws.{AreInOrder, DecodingGivesFirstSpellings, DecodingGivesInput, DecodingKeepsKeys, EncodingIsInOrder, EncodingKeepsInput, FaultsAreExact, IsReadInOneWay, first_equal, first_spellings}
