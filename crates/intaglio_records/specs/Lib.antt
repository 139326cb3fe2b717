-- What the contracts of this crate cite: of strings in one buffer, of lines and of records.
pub mod Strings
pub mod EndList
pub mod Line
pub mod Chains
pub mod Search
pub mod Header
pub mod Records
pub mod Entries
pub mod Matches
pub mod Index
