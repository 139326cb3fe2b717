-- The names that several proofs cite, passed on from one place.
pub use Rattle.std.proofs.lemmas.Bool.{eq-eqb, lt-ltb, true≢false}
pub use Rattle.std.proofs.lemmas.Grind.{common_steps, get_or_default_zero}
pub use Rattle.std.proofs.lemmas.List.{get_or-map, length-map, map-append, take-map}
pub use Rattle.std.proofs.lemmas.List.Elements.{All-take, Contains-append_right}
pub use Rattle.std.proofs.lemmas.Option.{get_or_from_slice_get, slice_get-get_or, slice_get-map, slice_get_within}
pub use Rattle.intaglio_content.specs.Key.{Key}
pub use Rattle.intaglio_core.proofs.Numbered.{AreEqualHashes, IsSearching, compared-as, ends, finds, goes-on, none-passed}
pub use Rattle.intaglio_records.proofs.IndexLemmas.{over-less, over-same, same-pairs}
pub use Rattle.intaglio_records.specs.Matches.{AreAll, IsLeft, most_left, one_of}
pub use Rattle.intaglio_records.specs.Records.{Records, hashes_of, record_room_of, strings_of}
