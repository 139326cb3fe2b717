-- What the proofs share.
mod Names
-- Lemmas on strings in one buffer.
pub mod Ends
-- Lemmas on lines, and on chains of them.
pub mod LineLemmas
pub mod ChainLemmas
pub mod Tops
pub mod Placing
pub mod Searching
pub mod Rounded
pub mod Removing
pub mod Finding
-- Lemmas on records.
pub mod RecordLemmas
pub mod EntryLemmas
pub mod Reading
pub mod MatchLemmas
pub mod IndexLemmas
