-- The types of contents and of errors, for callers' own definitions.
pub use Rattle.intaglio_text.specs.StrContent.{StrContent}
pub use Rattle.intaglio_text.specs.OsStrContent.{OsStrContent}
pub use Rattle.intaglio_bytes.specs.BytesContent.{BytesContent}
pub use Rattle.intaglio_bytes.specs.BStrContent.{BStrContent}
pub use Rattle.intaglio_cstr.specs.CStrContent.{CStrContent}
pub use Rattle.intaglio_path.specs.PathContent.{PathContent}
pub use Rattle.intaglio_symbol.specs.declared.error.InternError.{InternError}
pub use Rattle.intaglio_symbol.specs.declared.error.RoomError.{RoomError}
pub use Rattle.intaglio_symbol.specs.declared.error.StaleMark.{StaleMark}
pub use Rattle.intaglio_symbol.specs.declared.error.InternError.TheVariants as intern_error
pub use Rattle.intaglio_symbol.specs.declared.error.RoomError.TheVariants as room_error
