-- What the proofs share.
mod Names
-- Lemmas on the bytes of a column.
pub mod Checksums
pub mod CodesInFile
pub mod Counted
pub mod Marked
pub mod Unknown
pub mod Written
pub mod Overlaid
pub mod Past
pub mod Listed
pub mod Parts
pub mod Found
pub mod Translated
pub mod Coded
pub mod JoinedMaps
pub mod Agreed
pub mod Cut
pub mod Ranged
pub mod Shared
pub mod Interned
