-- What errors of reading and of writing can be.
use Rattle.intaglio_lines.specs.declared.error.StreamError.{StreamError}
use Rattle.intaglio_lines.specs.declared.error.StreamError.TheVariants.{Memory, Read, Write}

-- reading fails by an allocation or by a read
abbrev pub IsReadingError : StreamError → Type 0
IsReadingError Memory = Unit {0}
IsReadingError Read = Unit {0}
IsReadingError Write = ⊥

-- writing fails by an allocation, before anything is written, or by a write
abbrev pub IsWritingError : StreamError → Type 0
IsWritingError Memory = Unit {0}
IsWritingError Read = ⊥
IsWritingError Write = Unit {0}
