-- What the contracts cite.
pub mod Batches
pub mod Cited
pub mod Columns
pub mod Frozen
pub mod Handles
pub mod Lent
pub mod Owned
pub mod Seen
pub mod Words
