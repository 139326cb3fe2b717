-- The names that several proofs cite, passed on from one place.
pub use Rattle.std.proofs.Math.Seq.{get_or-append_seam}
pub use Rattle.std.proofs.lemmas.Bool.{cases_eq, cases_lt, cases_order, cond-false, cond-true, cond_both, eq-eqb, le-leb, le-ltb, leb-true, lt-ltb, ne_eqb, not-false}
pub use Rattle.std.proofs.lemmas.Bool.Decides.{eqb_tells}
pub use Rattle.std.proofs.lemmas.Grind.{common_steps}
pub use Rattle.std.proofs.lemmas.List.{drop-append-le, drop-drop, drop-take, drop_all, get_or-drop, get_or-map, get_or-set_other, get_or-set_same, get_or-take, get_or_append_left, get_or_default, get_or_past, length-append, length-drop, length-map, length-set, length-take, length-take-le, take-append-drop, take-append-le, take-map, take-take}
pub use Rattle.std.proofs.lemmas.List.Sorted.{All-permutation, IsPermutation-append_comm, IsPermutation-append_left, IsPermutation-append_right, IsPermutation-refl, IsPermutation-trans, sum_by-IsPermutation}
pub use Rattle.std.proofs.lemmas.List.Sums.{sum_by-cons, sum_by_more_le}
pub use Rattle.std.proofs.lemmas.Nat.Bits.{bit_at-lt, bit_at-trailing_zeros, bit_at-zero, bit_at_clear_other, bit_at_clear_same}
pub use Rattle.std.proofs.lemmas.Option.{get_or_from_slice_get, slice_get-get_or, slice_get-map}
pub use Rattle.std.specs.Int.{IsPowerOfTwo, bit_at, trailing_zeros}
pub use Rattle.std.specs.List.{All, concat}
pub use Rattle.std.specs.List.Sorted.{IsPermutation}
pub use Rattle.intaglio_records.specs.Chains.{AreBehind, AreChains, AreEmpty, IsFilled, Overflow, add, first_line, firsts_of, newest, newest_length, no_line, overflow, places_of}
pub use Rattle.intaglio_records.specs.Entries.{entries, entries_of, position, size_of, slot_of}
pub use Rattle.intaglio_records.specs.Header.{hash_at, header_of, number_at}
pub use Rattle.intaglio_records.specs.Line.{AreIn, Entry, IsLine, tag_of}
pub use Rattle.intaglio_records.specs.Matches.{AreAll, IsPosition, IsSlot, begin_of, numbers_with, one_of}
pub use Rattle.intaglio_records.specs.Records.{AreRecords, IsRecord, pair_of, set_aside}
pub use Rattle.intaglio_records.specs.Search.{AreFound, IsLeft, IsSearch, LeavesAll, bits_below, candidates, overflow_slots, picked, slots_of, slots_with}
pub use Rattle.intaglio_records.specs.Strings.{AreEnds, Strings, byte_room_of, strings_from}
pub use Rattle.intaglio_records.specs.declared.line.Line.{Line}
pub use Rattle.intaglio_records.specs.declared.lines.Lines.{Lines}
pub use Rattle.intaglio_records.specs.declared.search.Candidates.{Candidates}
