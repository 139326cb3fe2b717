-- What the proofs share.
mod Names
-- Lemmas on the bytes of a frozen table.
pub mod Places
pub mod Found
pub mod HashedAhead
pub mod Distinct
pub mod Marked
pub mod Hashed
pub mod Absorbed
pub mod Filtered
pub mod Joined
pub mod Numbered
pub mod Renumbered
pub mod Sharded
