-- The names that several proofs cite, passed on from one place.
pub use Rattle.std.proofs.lemmas.Grind.{common_steps}
pub use Rattle.std.proofs.lemmas.List.{append-nil, append_assoc, length-map, length-take, map-append}
pub use Rattle.std.proofs.lemmas.Option.{same_Some, slice_get_within}
pub use Rattle.intaglio_content.specs.Key.{Key}
pub use Rattle.intaglio_content.specs.Store.{IsMoved, IsPushed}
pub use Rattle.intaglio_interner.proofs.First.{first-append, first-none, first-tells, key_eq-decides, none-each, some-below}
pub use Rattle.intaglio_interner.proofs.Laws.{first-key, issued-each, keeps-front, mapped-some}
pub use Rattle.intaglio_interner.specs.Change.{AddsNew, Empties, Interns, InternsForm, InternsValue, IsAdded, IsAppended, IsCopyAppended, IsOutOfMemory, TakesBack}
pub use Rattle.intaglio_interner.specs.Issue.{interned, interned_all, issue, issue_from, issued}
pub use Rattle.intaglio_interner.specs.Lookup.{FindsNothing, IsFound, IsStored, Keeps}
pub use Rattle.intaglio_interner.specs.State.{AreDistinct, IsValid, State, first, first_of, key_eq, spelling_at}
pub use Rattle.intaglio_symbol.specs.AllSymbols.{numbers_from}
pub use Rattle.intaglio_symbol.specs.declared.error.InternError.{InternError}
